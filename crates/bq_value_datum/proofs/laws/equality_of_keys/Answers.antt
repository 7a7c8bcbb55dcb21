use Rattle.bq_value_datum.specs.SameLaws.{same_decides}
use Rattle.bq_value_datum.proofs.laws.equality_of_keys.Goals as goal

pub returns : goal.returns
returns c j k = same_decides j k
