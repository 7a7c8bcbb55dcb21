use Rattle.bq_load_laws.proofs.Graphs.Orders.{loaded_in_order}
use Rattle.bq_load_laws.proofs.graph.loads_are_refused_in_order.Goals as goal

pub returns : goal.returns
returns c = loaded_in_order
