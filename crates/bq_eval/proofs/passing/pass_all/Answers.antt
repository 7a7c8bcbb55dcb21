use Rattle.std.proofs.Common.{arith}
use Rattle.std.proofs.lemmas.Grind.{common_steps}
use Rattle.bq_eval.proofs.passing.pass_all.Goals as goal

pub returns-in_err-check_count : goal.returns-in_err-check_count
returns-in_err-check_count c = grind (arith, common_steps)

pub returns : goal.returns
returns c = grind (arith, common_steps)
