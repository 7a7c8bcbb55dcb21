use Rattle.std.proofs.Common.{arith}
use Rattle.std.proofs.lemmas.Grind.{common_steps}
use Rattle.bq_eval_spec.specs.Expressions.{suffixes}
use Rattle.bq_eval_rules.proofs.evaluator.Evaluator.suffixes.Goals as goal

pub loop-suffix-init : goal.loop-suffix-init
unfolding suffixes
loop-suffix-init g c = grind (arith, common_steps)

pub loop-suffix-preserved : goal.loop-suffix-preserved
unfolding suffixes
loop-suffix-preserved g c = grind (arith, common_steps)

pub returns-in_err-value : goal.returns-in_err-value
unfolding suffixes
returns-in_err-value g c = grind (arith, common_steps)

pub returns : goal.returns
unfolding suffixes
returns g c = grind (arith, common_steps)
