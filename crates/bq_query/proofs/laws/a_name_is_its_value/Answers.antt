use Rattle.bq_query.proofs.Inclusions.{itself}
use Rattle.bq_query.proofs.laws.a_name_is_its_value.Goals as goal

pub returns : goal.returns
returns c = itself
