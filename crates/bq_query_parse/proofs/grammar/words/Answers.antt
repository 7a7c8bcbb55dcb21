use Rattle.std.proofs.Common.{arith}
use Rattle.std.proofs.lemmas.Grind.{common_steps}
use Rattle.bq_query_parse.specs.Turns.{repeat}
use Rattle.bq_query_parse.proofs.LoopTurns.{turns_more, turns_over}
use Rattle.bq_query_parse.proofs.grammar.words.Goals as goal

pub returns-then-not-sees_word : goal.returns-then-not-sees_word
unfolding repeat
returns-then-not-sees_word c = grind (arith, common_steps, turns_more, turns_over)

pub returns-in_err-word : goal.returns-in_err-word
unfolding repeat
returns-in_err-word c = grind (arith, common_steps, turns_more, turns_over)

pub loop-turn-preserved : goal.loop-turn-preserved
unfolding repeat
loop-turn-preserved c = grind (arith, common_steps, turns_more, turns_over)

pub returns : goal.returns
unfolding repeat
returns c = grind (arith, common_steps, turns_more, turns_over)
