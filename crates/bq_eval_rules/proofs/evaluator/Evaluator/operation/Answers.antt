use Rattle.std.proofs.Common.{arith}
use Rattle.std.proofs.lemmas.Grind.{common_steps}
use Rattle.bq_eval_spec.specs.Expressions.{operation}
use Rattle.bq_eval_rules.proofs.evaluator.Evaluator.operation.Goals as goal

pub returns-then-truth : goal.returns-then-truth
unfolding operation
returns-then-truth g c = grind (arith, common_steps)

pub returns-in_err-share-in-And : goal.returns-in_err-share-in-And
unfolding operation
returns-in_err-share-in-And g c = grind (arith, common_steps)

pub returns-in_err-share-in-Or : goal.returns-in_err-share-in-Or
unfolding operation
returns-in_err-share-in-Or g c = grind (arith, common_steps)

pub returns-then-truth-2 : goal.returns-then-truth-2
unfolding operation
returns-then-truth-2 g c = grind (arith, common_steps)

pub returns-in_ok-share-in-And : goal.returns-in_ok-share-in-And
unfolding operation
returns-in_ok-share-in-And g c = grind (arith, common_steps)

pub returns-else-truth-2 : goal.returns-else-truth-2
unfolding operation
returns-else-truth-2 g c = grind (arith, common_steps)

pub returns-in_default : goal.returns-in_default
unfolding operation
returns-in_default g c = grind (arith, common_steps)
