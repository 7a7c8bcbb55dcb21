use Rattle.bq_parse_grammar.proofs.Tests.{one_test}
use Rattle.bq_parse_grammar.proofs.laws.one_tree_of_a_test.Goals as goal

pub returns : goal.returns
returns c depth ts rest = one_test depth ts rest
