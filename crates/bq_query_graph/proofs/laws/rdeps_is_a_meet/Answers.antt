use Rattle.bq_query_graph.proofs.Meets.{meet}
use Rattle.bq_query_graph.proofs.laws.rdeps_is_a_meet.Goals as goal

pub returns : goal.returns
returns c = meet
