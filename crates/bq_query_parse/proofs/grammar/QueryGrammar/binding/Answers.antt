use Rattle.std.proofs.Common.{arith}
use Rattle.std.proofs.lemmas.Grind.{common_steps}
use Rattle.bq_query_parse.specs.Reading.{binding}
use Rattle.bq_query_parse.proofs.grammar.QueryGrammar.binding.Goals as goal

pub returns-in_err-value : goal.returns-in_err-value
unfolding binding
returns-in_err-value g c = grind (arith, common_steps)

pub returns-in_err-expect : goal.returns-in_err-expect
unfolding binding
returns-in_err-expect g c = grind (arith, common_steps)

pub returns-in_err-body : goal.returns-in_err-body
unfolding binding
returns-in_err-body g c = grind (arith, common_steps)

pub returns : goal.returns
unfolding binding
returns g c = grind (arith, common_steps)
