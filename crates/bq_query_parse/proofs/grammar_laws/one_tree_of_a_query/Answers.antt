use Rattle.bq_query_parse.proofs.Queries.{one_query}
use Rattle.bq_query_parse.proofs.grammar_laws.one_tree_of_a_query.Goals as goal

pub returns : goal.returns
returns c depth ts rest = one_query depth ts rest
