use Rattle.bq_query_parse.proofs.Queries.{sound}
use Rattle.bq_query_parse.proofs.grammar_laws.what_is_read_is_a_query.Goals as goal

pub returns : goal.returns
returns c depth ts rest = sound depth ts rest
