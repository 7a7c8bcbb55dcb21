use Rattle.std.proofs.Common.{arith}
use Rattle.std.proofs.lemmas.Grind.{common_steps}
use Rattle.bq_parse_grammar.specs.Turns.{repeat}
use Rattle.bq_parse_expression.proofs.LoopTurns.{turns_more, turns_over}
use Rattle.bq_parse_expression.proofs.grammar.Grammar.further_clauses.Goals as goal

pub loop-turn-preserved : goal.loop-turn-preserved
unfolding repeat
loop-turn-preserved g c = grind (arith, common_steps, turns_more, turns_over)

pub returns-then-not-sees_clause : goal.returns-then-not-sees_clause
unfolding repeat
returns-then-not-sees_clause g c = grind (arith, common_steps, turns_more, turns_over)

pub returns : goal.returns
unfolding repeat
returns g c = grind (arith, common_steps, turns_more, turns_over)

pub returns-in_err-clause : goal.returns-in_err-clause
unfolding repeat
returns-in_err-clause g c = grind (arith, common_steps, turns_more, turns_over)
