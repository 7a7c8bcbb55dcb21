use Rattle.bq_query_parse.proofs.Queries.{complete}
use Rattle.bq_query_parse.proofs.grammar_laws.each_query_is_read.Goals as goal

pub returns : goal.returns
returns c depth ts rest = complete depth ts rest
