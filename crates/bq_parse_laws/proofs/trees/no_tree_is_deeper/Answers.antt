use Rattle.std.proofs.Common.{Ok, refl, ◌≤◌, ◌+◌, ◌*◌, arith}
use Rattle.bq_parse_grammar.specs.Pieces.{pieces}
use Rattle.bq_parse_laws.specs.Depth.{expr_depth}
use Rattle.bq_parse_laws.proofs.ExpressionDepths.{test_to_within}
use Rattle.bq_parse_laws.proofs.FileDepths.{statement_within, file_within}
use Rattle.bq_parse_laws.proofs.trees.no_tree_is_deeper.Goals as goal

pub returns-clause-expression : goal.returns-clause-expression
returns-clause-expression c = λ depth ts rest x p. let a : expr_depth x ≤ 14 * depth + 14 = test_to_within depth ts rest x p in omega arith

pub returns-clause-statement : goal.returns-clause-statement
returns-clause-statement c = λ kind ts x p. statement_within kind ts x p

pub returns-clause-file : goal.returns-clause-file
returns-clause-file c = λ kind ts xs p. file_within kind (pieces ts) xs (Ok xs) refl p
