use Rattle.std.proofs.Common.{rules, arith}
use Rattle.std.proofs.lemmas.Grind.{common_steps}
use Rattle.bq_parse_grammar.specs.Reading.{test}
use Rattle.bq_parse_expression.proofs.grammar.Grammar.test.Goals as goal

pub returns-then-sees : goal.returns-then-sees
unfolding test
returns-then-sees g c = first_of (search rules, grind (arith, common_steps))

pub returns-in_err-value : goal.returns-in_err-value
unfolding test
returns-in_err-value g c = first_of (search rules, grind (arith, common_steps))

pub returns : goal.returns
unfolding test
returns g c = first_of (search rules, grind (arith, common_steps))
