use Rattle.std.proofs.Common.{arith}
use Rattle.std.proofs.lemmas.Grind.{common_steps}
use Rattle.bq_eval_frame.specs.Slots.{layered}
use Rattle.bq_eval_frame.proofs.inner.Inner.outer.Goals as goal

pub returns-in-Some : goal.returns-in-Some
unfolding layered
returns-in-Some c = grind (arith, common_steps)

pub loop-bound-preserved : goal.loop-bound-preserved
unfolding layered
loop-bound-preserved c = grind (arith, common_steps)

pub returns : goal.returns
unfolding layered
returns c = grind (arith, common_steps)
