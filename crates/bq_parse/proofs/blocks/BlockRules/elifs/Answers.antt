use Rattle.std.proofs.Common.{arith}
use Rattle.std.proofs.lemmas.Grind.{common_steps}
use Rattle.bq_parse_grammar.specs.Turns.{repeat}
use Rattle.bq_parse.proofs.LoopTurns.{turns_more, turns_over}
use Rattle.bq_parse.proofs.blocks.BlockRules.elifs.Goals as goal

pub loop-turn-preserved : goal.loop-turn-preserved
unfolding repeat
loop-turn-preserved g c = grind (arith, common_steps, turns_more, turns_over)

pub returns-then-not-sees : goal.returns-then-not-sees
unfolding repeat
returns-then-not-sees g c = grind (arith, common_steps, turns_more, turns_over)

pub returns : goal.returns
unfolding repeat
returns g c = grind (arith, common_steps, turns_more, turns_over)

pub returns-in_err-elif : goal.returns-in_err-elif
unfolding repeat
returns-in_err-elif g c = grind (arith, common_steps, turns_more, turns_over)
