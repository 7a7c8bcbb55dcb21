use Rattle.bq_load_discover.proofs.OneGraph.{too_many_for_a_load_graph}
use Rattle.bq_load_discover.proofs.laws.too_many_for_a_load_graph.Goals as goal

pub returns : goal.returns
returns c = too_many_for_a_load_graph
