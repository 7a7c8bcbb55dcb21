use Rattle.bq_load_order.proofs.Unchanged.{as_they_did}
use Rattle.bq_load_order.proofs.again_laws.modules_evaluate_as_they_did.Goals as goal

pub returns : goal.returns
returns g c = as_they_did _ _
