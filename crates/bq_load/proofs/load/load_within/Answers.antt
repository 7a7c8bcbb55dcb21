use Rattle.bq_load.proofs.load.load_within.Goals as goal

pub load_graph_with-requires-clause-graph : goal.load_graph_with-requires-clause-graph
load_graph_with-requires-clause-graph g c κs h = c.in-Ok.ensures.0
