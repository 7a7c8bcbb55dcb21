use Rattle.std.proofs.Common.{arith}
use Rattle.std.proofs.lemmas.Grind.{common_steps, elements}
use Rattle.bq_eval_spec.specs.Slots.{frozen_units}
use Rattle.bq_eval_rules.specs.Round.{globals_of, units_at}
use Rattle.bq_eval_rules.proofs.units.unit_at.Goals as goal

pub returns-then-home-program : goal.returns-then-home-program
unfolding units_at frozen_units globals_of
returns-then-home-program c = grind (arith, common_steps)

pub returns-in-None : goal.returns-in-None
unfolding units_at frozen_units globals_of
returns-in-None c = grind (arith, common_steps)

pub returns-in-None-get : goal.returns-in-None-get
unfolding units_at frozen_units globals_of
returns-in-None-get c = grind (arith, elements)

pub returns-in-Some-None : goal.returns-in-Some-None
unfolding units_at frozen_units globals_of
returns-in-Some-None c = grind (arith, elements)

pub returns-in-Some-Some : goal.returns-in-Some-Some
unfolding units_at frozen_units globals_of
returns-in-Some-Some c = grind (arith, elements)
