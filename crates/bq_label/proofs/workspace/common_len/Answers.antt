use Rattle.std.proofs.Common.{arith}
use Rattle.std.proofs.lemmas.Bool.Decides.{nat_tests}
use Rattle.bq_label.proofs.Neighbours.{stops}
use Rattle.std.proofs.lemmas.Grind.{common_steps}
use Rattle.bq_label.specs.Paths.{common_len}
use Rattle.bq_label.proofs.workspace.common_len.Goals as goal

pub returns-else-at-b : goal.returns-else-at-b
returns-else-at-b c = let none = stops c.args.a.now c.args.b.now c.loop-at.at (λ room same. grind (arith, nat_tests)) in omega (arith, none, c.loop-at.invariant)

pub loop-at-preserved : goal.loop-at-preserved
unfolding common_len
loop-at-preserved c = grind (arith, common_steps)

pub returns-else-a-at : goal.returns-else-a-at
unfolding common_len
returns-else-a-at c = grind (arith, common_steps)
