use Rattle.bq_load_laws.proofs.Outcomes.Orders.{exported_in_order}
use Rattle.bq_load_laws.proofs.outcome.symbols_are_refused_in_order.Goals as goal

pub returns : goal.returns
returns c = exported_in_order
