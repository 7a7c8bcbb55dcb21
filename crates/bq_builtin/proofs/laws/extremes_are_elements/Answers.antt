use Rattle.bq_builtin.proofs.Answered.{none_greater, none_smaller}
use Rattle.bq_builtin.proofs.laws.extremes_are_elements.Goals as goal

pub returns : goal.returns
returns c = record { greatest = none_greater; least = none_smaller }
