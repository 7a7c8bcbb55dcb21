use Rattle.std.proofs.Common.{arith}
use Rattle.std.proofs.lemmas.Grind.{common_steps}
use Rattle.bq_eval_spec.specs.Expressions.{unary_each}
use Rattle.bq_eval_rules.proofs.operators.unary_each.Goals as goal

pub loop-rest-init : goal.loop-rest-init
unfolding unary_each
loop-rest-init g c = grind (arith, common_steps)

pub loop-rest-preserved : goal.loop-rest-preserved
unfolding unary_each
loop-rest-preserved g c = grind (arith, common_steps)

pub returns-in_err-value : goal.returns-in_err-value
unfolding unary_each
returns-in_err-value g c = grind (arith, common_steps)

pub returns : goal.returns
unfolding unary_each
returns g c = grind (arith, common_steps)
