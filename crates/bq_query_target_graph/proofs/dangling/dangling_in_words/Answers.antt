use Rattle.bq_query_target_graph.proofs.Danglings.{in_words}
use Rattle.bq_query_target_graph.proofs.dangling.dangling_in_words.Goals as goal

pub returns : goal.returns
returns c = in_words
