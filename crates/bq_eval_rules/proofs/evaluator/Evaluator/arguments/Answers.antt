use Rattle.std.proofs.Common.{arith}
use Rattle.std.proofs.lemmas.Grind.{common_steps}
use Rattle.bq_eval_spec.specs.Expressions.{arguments}
use Rattle.bq_eval_rules.proofs.evaluator.Evaluator.arguments.Goals as goal

pub loop-argument-init : goal.loop-argument-init
unfolding arguments
loop-argument-init g c = grind (arith, common_steps)

pub loop-argument-preserved : goal.loop-argument-preserved
unfolding arguments
loop-argument-preserved g c = grind (arith, common_steps)

pub returns-in_err-argument : goal.returns-in_err-argument
unfolding arguments
returns-in_err-argument g c = grind (arith, common_steps)

pub returns : goal.returns
unfolding arguments
returns g c = grind (arith, common_steps)
