use Rattle.bq_value.proofs.Identity.{rules_by_cell}
use Rattle.bq_value.proofs.walk_laws.rules_are_equal_by_identity.Goals as goal

pub returns : goal.returns
returns c = rules_by_cell
