use Rattle.bq_query_graph.proofs.Meets.{paths_meet}
use Rattle.bq_query_graph.proofs.laws.allpaths_is_a_meet.Goals as goal

pub returns : goal.returns
returns c = paths_meet
