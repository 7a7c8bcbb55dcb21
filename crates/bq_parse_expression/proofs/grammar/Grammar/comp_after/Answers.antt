use Rattle.std.proofs.Common.{arith}
use Rattle.std.proofs.lemmas.Grind.{common_steps}
use Rattle.bq_parse_grammar.specs.Reading.{comp}
use Rattle.bq_parse_expression.proofs.grammar.Grammar.comp_after.Goals as goal

pub returns-in_err-right : goal.returns-in_err-right
unfolding comp
returns-in_err-right g c = grind (arith, common_steps)
