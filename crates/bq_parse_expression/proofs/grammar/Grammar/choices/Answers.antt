use Rattle.std.proofs.Common.{arith}
use Rattle.std.proofs.lemmas.Grind.{common_steps}
use Rattle.bq_parse_grammar.specs.Turns.{repeat}
use Rattle.bq_parse_expression.proofs.LoopTurns.{turns_more, turns_over}
use Rattle.bq_parse_expression.proofs.grammar.Grammar.choices.Goals as goal

pub loop-turn-preserved : goal.loop-turn-preserved
unfolding repeat
loop-turn-preserved g c = grind (arith, common_steps, turns_more, turns_over)

pub returns-then-not-sees : goal.returns-then-not-sees
unfolding repeat
returns-then-not-sees g c = grind (arith, common_steps, turns_more, turns_over)

pub returns : goal.returns
unfolding repeat
returns g c = grind (arith, common_steps, turns_more, turns_over)

pub returns-in_err-condition : goal.returns-in_err-condition
unfolding repeat
returns-in_err-condition g c = grind (arith, common_steps, turns_more, turns_over)
