use Rattle.std.proofs.Common.{arith}
use Rattle.std.proofs.lemmas.Grind.{common_steps}
use Rattle.bq_eval_spec.specs.Expressions.{operations}
use Rattle.bq_eval_rules.proofs.evaluator.Evaluator.long_chain.Goals as goal

pub returns-in_err-share-in-empty : goal.returns-in_err-share-in-empty
unfolding operations
returns-in_err-share-in-empty g c = grind (arith, common_steps)

pub returns-in_err-value-in-len1-up : goal.returns-in_err-value-in-len1-up
unfolding operations
returns-in_err-value-in-len1-up g c = grind (arith, common_steps)

pub returns-in_ok-share-in-empty : goal.returns-in_ok-share-in-empty
unfolding operations
returns-in_ok-share-in-empty g c = grind (arith, common_steps)

pub returns-in_ok-value-in-len1-up : goal.returns-in_ok-value-in-len1-up
unfolding operations
returns-in_ok-value-in-len1-up g c = grind (arith, common_steps)
