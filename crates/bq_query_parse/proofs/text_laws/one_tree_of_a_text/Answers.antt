use Rattle.bq_query_parse.proofs.Texts.{one_tree}
use Rattle.bq_query_parse.proofs.text_laws.one_tree_of_a_text.Goals as goal

pub returns : goal.returns
returns c text = one_tree text
