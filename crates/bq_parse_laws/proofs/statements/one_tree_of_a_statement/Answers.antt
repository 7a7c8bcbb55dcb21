use Rattle.bq_parse_laws.proofs.Verdicts.{one_statement, ends_there}
use Rattle.bq_parse_laws.proofs.statements.one_tree_of_a_statement.Goals as goal

pub returns : goal.returns
returns c depth ts rest plain h x y p q = one_statement depth ts rest x y plain (ends_there rest h) p q
