use Rattle.std.proofs.Common.{arith}
use Rattle.std.proofs.lemmas.Grind.{common_steps}
use Rattle.bq_eval_spec.specs.Expressions.{pairs_each}
use Rattle.bq_eval_rules.proofs.evaluator.Evaluator.pairs_each.Goals as goal

pub loop-pair-init : goal.loop-pair-init
unfolding pairs_each
loop-pair-init g c = grind (arith, common_steps)

pub loop-pair-preserved : goal.loop-pair-preserved
unfolding pairs_each
loop-pair-preserved g c = grind (arith, common_steps)

pub returns-in_err-pair : goal.returns-in_err-pair
unfolding pairs_each
returns-in_err-pair g c = grind (arith, common_steps)

pub returns : goal.returns
unfolding pairs_each
returns g c = grind (arith, common_steps)
