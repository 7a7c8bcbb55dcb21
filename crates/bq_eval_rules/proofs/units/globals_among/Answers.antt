use Rattle.std.proofs.Common.{arith}
use Rattle.std.proofs.lemmas.Grind.{common_steps}
use Rattle.bq_eval_spec.specs.Slots.{globals_among}
use Rattle.bq_eval_rules.proofs.units.globals_among.Goals as goal

pub loop-frozen-init : goal.loop-frozen-init
unfolding globals_among
loop-frozen-init c = grind (arith, common_steps)

pub returns-in-Some : goal.returns-in-Some
unfolding globals_among
returns-in-Some c = grind (arith, common_steps)

pub loop-frozen-preserved : goal.loop-frozen-preserved
unfolding globals_among
loop-frozen-preserved c = grind (arith, common_steps)

pub returns : goal.returns
unfolding globals_among
returns c = grind (arith, common_steps)
