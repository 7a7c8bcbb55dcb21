use Rattle.std.proofs.Common.{arith}
use Rattle.std.proofs.lemmas.Grind.{common_steps}
use Rattle.bq_eval_spec.specs.Expressions.{values}
use Rattle.bq_eval_rules.proofs.reader.Reader.values.Goals as goal

pub loop-code-init : goal.loop-code-init
unfolding values
loop-code-init g c = grind (arith, common_steps)

pub loop-code-preserved : goal.loop-code-preserved
unfolding values
loop-code-preserved g c = grind (arith, common_steps)

pub returns-in_err-value : goal.returns-in_err-value
unfolding values
returns-in_err-value g c = grind (arith, common_steps)

pub returns-in_err-push : goal.returns-in_err-push
unfolding values
returns-in_err-push g c = grind (arith, common_steps)

pub returns : goal.returns
unfolding values
returns g c = grind (arith, common_steps)
