use Rattle.std.proofs.Common.{arith}
use Rattle.std.proofs.lemmas.Grind.{common_steps}
use Rattle.bq_builtin_operators.specs.Membership.{in_list}
use Rattle.bq_builtin_operators.proofs.membership.in_list.Goals as goal

pub returns-in_err-same : goal.returns-in_err-same
unfolding in_list
returns-in_err-same c = grind (arith, common_steps)

pub returns-then-same : goal.returns-then-same
unfolding in_list
returns-then-same c = grind (arith, common_steps)

pub loop-other-preserved : goal.loop-other-preserved
loop-other-preserved c = grind (arith, common_steps)
