use Rattle.std.proofs.Common.{arith}
use Rattle.std.proofs.lemmas.Grind.{common_steps}
use Rattle.bq_source_lexer.proofs.place.Lexer.close_above.Goals as goal

pub loop-innermost-preserved : goal.loop-innermost-preserved
loop-innermost-preserved c = grind (arith, common_steps)

pub returns-then-innermost-width : goal.returns-then-innermost-width
returns-then-innermost-width c = grind (arith, common_steps)

pub loop-innermost-smaller : goal.loop-innermost-smaller
loop-innermost-smaller c = grind (arith, common_steps)
