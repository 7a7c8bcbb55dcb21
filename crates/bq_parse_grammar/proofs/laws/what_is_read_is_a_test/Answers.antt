use Rattle.bq_parse_grammar.proofs.Tests.{sound}
use Rattle.bq_parse_grammar.proofs.laws.what_is_read_is_a_test.Goals as goal

pub returns : goal.returns
returns c depth ts = sound depth ts
