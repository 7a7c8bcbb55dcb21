use Rattle.std.proofs.Common.{arith}
use Rattle.std.proofs.lemmas.Grind.{common_steps}
use Rattle.bq_parse_grammar.specs.Reading.{arguments}
use Rattle.bq_parse_expression.proofs.LoopTurns.{turns_more, turns_over}
use Rattle.bq_parse_expression.proofs.grammar.Grammar.arguments.Goals as goal

pub returns-then-not-eat : goal.returns-then-not-eat
unfolding arguments
returns-then-not-eat g c = grind (arith, common_steps, turns_more, turns_over)

pub loop-turn-preserved : goal.loop-turn-preserved
unfolding arguments
loop-turn-preserved g c = grind (arith, common_steps, turns_more, turns_over)

pub returns-then-eat : goal.returns-then-eat
unfolding arguments
returns-then-eat g c = grind (arith, common_steps, turns_more, turns_over)

pub returns-in_err-argument : goal.returns-in_err-argument
unfolding arguments
returns-in_err-argument g c = grind (arith, common_steps, turns_more, turns_over)
