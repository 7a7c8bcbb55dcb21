use Rattle.std.proofs.Common.{rules, arith}
use Rattle.std.proofs.lemmas.Grind.{common_steps}
use Rattle.bq_parse_grammar.specs.Turns.{repeat}
use Rattle.bq_parse_expression.proofs.LoopTurns.{turns_more, turns_over, level_above, none_follow}
use Rattle.bq_parse_grammar.specs.Reading.{chain, operation}
use Rattle.bq_parse_expression.proofs.grammar.Grammar.+binary.Goals as goal

pub operations-loop-turn-preserved : goal.operations-loop-turn-preserved
unfolding repeat operation
operations-loop-turn-preserved g t c = grind (arith, common_steps, turns_more, turns_over)

pub operations-returns-in_err-operator : goal.operations-returns-in_err-operator
unfolding repeat operation
operations-returns-in_err-operator g t c = grind (arith, common_steps, turns_more, turns_over)

pub operations-returns-in_err-operand : goal.operations-returns-in_err-operand
unfolding repeat operation
operations-returns-in_err-operand g t c = grind (arith, common_steps, turns_more, turns_over)

pub binary-returns : goal.binary-returns
unfolding chain
binary-returns g t c = grind (arith, common_steps, level_above)

pub binary-returns-in_err-operations : goal.binary-returns-in_err-operations
unfolding chain
binary-returns-in_err-operations g t c = grind (arith, common_steps, level_above)

pub operations-returns-then-not-sees_operator : goal.operations-returns-then-not-sees_operator
unfolding repeat operation
operations-returns-then-not-sees_operator g t c = grind (arith, common_steps, turns_more, turns_over)

pub operations-returns : goal.operations-returns
unfolding repeat operation
operations-returns g t c = grind (arith, common_steps, turns_more, turns_over)

pub binary-returns-in_err-first : goal.binary-returns-in_err-first
unfolding chain
binary-returns-in_err-first g t c = first_of (grind (arith, common_steps, level_above), search (rules, level_above))

pub binary-returns-in_err-first-2 : goal.binary-returns-in_err-first-2
unfolding chain
binary-returns-in_err-first-2 g t c = first_of (grind (arith, common_steps), search rules)

pub binary-returns-then-not-sees_operator : goal.binary-returns-then-not-sees_operator
unfolding chain
binary-returns-then-not-sees_operator g t c = first_of (grind (arith, common_steps, level_above, none_follow), search (rules, level_above, none_follow))
