use Rattle.std.proofs.Common.{arith}
use Rattle.std.proofs.lemmas.Grind.{common_steps}
use Rattle.bq_parse_grammar.specs.Turns.{repeat}
use Rattle.bq_parse_expression.proofs.LoopTurns.{turns_more, turns_over}
use Rattle.bq_parse_expression.proofs.variables.further_vars.Goals as goal

pub loop-turn-preserved : goal.loop-turn-preserved
unfolding repeat
loop-turn-preserved c = grind (arith, common_steps, turns_more, turns_over)

pub returns-then-not-sees : goal.returns-then-not-sees
unfolding repeat
returns-then-not-sees c = grind (arith, common_steps, turns_more, turns_over)

pub returns-in_err-var_after_comma : goal.returns-in_err-var_after_comma
unfolding repeat
returns-in_err-var_after_comma c = grind (arith, common_steps, turns_more, turns_over)

pub returns : goal.returns
unfolding repeat
returns c = grind (arith, common_steps, turns_more, turns_over)
