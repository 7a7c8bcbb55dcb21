use Rattle.std.proofs.Common.{arith}
use Rattle.std.proofs.lemmas.Grind.{common_steps}
use Rattle.bq_query_parse.specs.Reading.{query_in}
use Rattle.bq_query_parse.proofs.grammar.QueryGrammar.query_in.Goals as goal

pub returns-then-eat : goal.returns-then-eat
unfolding query_in
returns-then-eat g c = grind (arith, common_steps)

pub returns-in_err-operand : goal.returns-in_err-operand
unfolding query_in
returns-in_err-operand g c = grind (arith, common_steps)

pub returns-in_err-operations : goal.returns-in_err-operations
unfolding query_in
returns-in_err-operations g c = grind (arith, common_steps)

pub returns : goal.returns
unfolding query_in
returns g c = grind (arith, common_steps)
