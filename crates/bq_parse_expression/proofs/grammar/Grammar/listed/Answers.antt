use Rattle.std.proofs.Common.{arith}
use Rattle.std.proofs.lemmas.Grind.{common_steps}
use Rattle.bq_parse_grammar.specs.Turns.{listed_from}
use Rattle.bq_parse_expression.proofs.LoopTurns.{turns_more, turns_over}
use Rattle.bq_parse_expression.proofs.grammar.Grammar.listed.Goals as goal

pub loop-turn-preserved : goal.loop-turn-preserved
unfolding listed_from
loop-turn-preserved g c = grind (arith, common_steps, turns_more, turns_over)

pub returns-then-eat : goal.returns-then-eat
unfolding listed_from
returns-then-eat g c = grind (arith, common_steps, turns_more, turns_over)

pub returns-then-not-eat : goal.returns-then-not-eat
unfolding listed_from
returns-then-not-eat g c = grind (arith, common_steps, turns_more, turns_over)

pub returns-in_err-nested : goal.returns-in_err-nested
unfolding listed_from
returns-in_err-nested g c = grind (arith, common_steps, turns_more, turns_over)

pub returns : goal.returns
unfolding listed_from
returns g c = grind (arith, common_steps, turns_more, turns_over)
