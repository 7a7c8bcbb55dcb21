use Rattle.std.proofs.Common.{arith}
use Rattle.std.proofs.lemmas.Grind.{common_steps}
use Rattle.bq_source.specs.Number.{int_value, numeral_value}
use Rattle.bq_source.proofs.number.int_value.Goals as goal

pub returns-in-48 : goal.returns-in-48
unfolding int_value numeral_value
returns-in-48 c = grind (arith, common_steps)
