use Rattle.bq_query_graph.proofs.Meets.{grown}
use Rattle.bq_query_graph.proofs.laws.deps_grows.Goals as goal

pub returns : goal.returns
returns c = grown
