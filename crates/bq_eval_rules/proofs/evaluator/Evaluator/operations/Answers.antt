use Rattle.std.proofs.Common.{arith}
use Rattle.std.proofs.lemmas.Grind.{common_steps}
use Rattle.bq_eval_spec.specs.Expressions.{operations}
use Rattle.bq_eval_rules.proofs.evaluator.Evaluator.operations.Goals as goal

pub loop-operation-init : goal.loop-operation-init
unfolding operations
loop-operation-init g c = grind (arith, common_steps)

pub loop-operation-preserved : goal.loop-operation-preserved
unfolding operations
loop-operation-preserved g c = grind (arith, common_steps)

pub returns-in_err-value : goal.returns-in_err-value
unfolding operations
returns-in_err-value g c = grind (arith, common_steps)

pub returns : goal.returns
unfolding operations
returns g c = grind (arith, common_steps)
