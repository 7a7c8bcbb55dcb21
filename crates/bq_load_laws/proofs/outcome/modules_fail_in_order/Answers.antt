use Rattle.bq_load_laws.proofs.Outcomes.Orders.{failed_in_order}
use Rattle.bq_load_laws.proofs.outcome.modules_fail_in_order.Goals as goal

pub returns : goal.returns
returns c = failed_in_order
