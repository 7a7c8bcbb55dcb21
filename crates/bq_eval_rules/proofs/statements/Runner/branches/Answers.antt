use Rattle.std.proofs.Common.{arith}
use Rattle.std.proofs.lemmas.Grind.{common_steps}
use Rattle.bq_eval_spec.specs.Statements.{branches}
use Rattle.bq_eval_rules.proofs.statements.Runner.branches.Goals as goal

pub loop-branch-init : goal.loop-branch-init
unfolding branches
loop-branch-init g c = grind (arith, common_steps)

pub loop-branch-preserved : goal.loop-branch-preserved
unfolding branches
loop-branch-preserved g c = grind (arith, common_steps)

pub returns-in-None : goal.returns-in-None
unfolding branches
returns-in-None g c = grind (arith, common_steps)

pub returns-in-Some-true : goal.returns-in-Some-true
unfolding branches
returns-in-Some-true g c = grind (arith, common_steps)

pub returns : goal.returns
unfolding branches
returns g c = grind (arith, common_steps)
