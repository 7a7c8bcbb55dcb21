use Rattle.bq_query_graph.proofs.Meets.{least}
use Rattle.bq_query_graph.proofs.laws.deps_is_least.Goals as goal

pub returns : goal.returns
returns c = least
