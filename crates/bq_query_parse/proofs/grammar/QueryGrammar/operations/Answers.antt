use Rattle.std.proofs.Common.{arith}
use Rattle.std.proofs.lemmas.Grind.{common_steps}
use Rattle.bq_query_parse.specs.Reading.{operations}
use Rattle.bq_query_parse.proofs.LoopTurns.{turns_more, turns_over}
use Rattle.bq_query_parse.proofs.grammar.QueryGrammar.operations.Goals as goal

pub returns-then-not-sees_operator : goal.returns-then-not-sees_operator
unfolding operations
returns-then-not-sees_operator g c = grind (arith, common_steps, turns_more, turns_over)

pub returns-in_err-an_operation : goal.returns-in_err-an_operation
unfolding operations
returns-in_err-an_operation g c = grind (arith, common_steps, turns_more, turns_over)

pub returns-then-is_last : goal.returns-then-is_last
unfolding operations
returns-then-is_last g c = grind (arith, common_steps, turns_more, turns_over)

pub loop-turn-preserved : goal.loop-turn-preserved
unfolding operations
loop-turn-preserved g c = grind (arith, common_steps, turns_more, turns_over)

pub returns : goal.returns
unfolding operations
returns g c = grind (arith, common_steps, turns_more, turns_over)
