use Rattle.std.proofs.Common.{arith}
use Rattle.bq_eval.specs.Passing.{with_pairs}
use Rattle.std.proofs.lemmas.Grind.{common_steps}
use Rattle.bq_eval.proofs.passing.push_pairs.Goals as goal

pub returns-in_err-push_pair : goal.returns-in_err-push_pair
unfolding with_pairs
returns-in_err-push_pair c = grind (arith, common_steps)

pub loop-i-preserved : goal.loop-i-preserved
unfolding with_pairs
loop-i-preserved c = grind (arith, common_steps)

pub returns : goal.returns
unfolding with_pairs
returns c = grind (arith, common_steps)
