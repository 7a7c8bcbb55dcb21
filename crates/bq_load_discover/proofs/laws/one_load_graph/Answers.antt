use Rattle.bq_load_discover.proofs.OneGraph.{one_load_graph}
use Rattle.bq_load_discover.proofs.laws.one_load_graph.Goals as goal

pub returns : goal.returns
returns c = one_load_graph
