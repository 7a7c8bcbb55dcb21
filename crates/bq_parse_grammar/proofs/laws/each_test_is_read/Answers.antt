use Rattle.bq_parse_grammar.proofs.Tests.{complete}
use Rattle.bq_parse_grammar.proofs.laws.each_test_is_read.Goals as goal

pub returns : goal.returns
returns c depth ts rest = complete depth ts rest
