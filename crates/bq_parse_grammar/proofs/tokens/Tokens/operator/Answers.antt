use Rattle.std.proofs.Common.{arith}
use Rattle.std.proofs.lemmas.Grind.{common_steps}
use Rattle.bq_parse_grammar.proofs.Ahead.{level_known}
use Rattle.bq_parse_grammar.proofs.tokens.Tokens.operator.Goals as goal

pub returns-in_default : goal.returns-in_default
returns-in_default c = grind (arith, common_steps, level_known)

pub returns-then-of-level : goal.returns-then-of-level
returns-then-of-level c = grind (arith, common_steps, level_known)

pub returns : goal.returns
returns c = grind (arith, common_steps, level_known)
