use Rattle.std.proofs.Common.{arith}
use Rattle.std.proofs.lemmas.Grind.{common_steps}
use Rattle.bq_eval_rules.specs.Taking.{all_taken}
use Rattle.bq_eval_rules.proofs.evaluator.Evaluator.take_all.Goals as goal

pub loop-place-init : goal.loop-place-init
unfolding all_taken
loop-place-init g c = grind (arith, common_steps)

pub loop-place-preserved : goal.loop-place-preserved
unfolding all_taken
loop-place-preserved g c = grind (arith, common_steps)

pub returns-in_err-take : goal.returns-in_err-take
unfolding all_taken
returns-in_err-take g c = grind (arith, common_steps)

pub returns : goal.returns
unfolding all_taken
returns g c = grind (arith, common_steps)
