use Rattle.std.proofs.Common.{arith}
use Rattle.std.proofs.lemmas.Grind.{common_steps}
use Rattle.bq_eval_rules.proofs.operand.int_operand.Goals as goal

pub returns-in_err-literal : goal.returns-in_err-literal
returns-in_err-literal g c = grind (arith, common_steps)

pub returns : goal.returns
returns g c = grind (arith, common_steps)
