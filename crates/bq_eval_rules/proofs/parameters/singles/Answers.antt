use Rattle.std.proofs.Common.{arith}
use Rattle.std.proofs.lemmas.Grind.{common_steps}
use Rattle.bq_eval_rules.proofs.ParameterLists.{singles_from}
use Rattle.bq_eval_rules.proofs.parameters.singles.Goals as goal

pub loop-parameter-preserved : goal.loop-parameter-preserved
loop-parameter-preserved c = grind (arith, common_steps, singles_from)

pub returns : goal.returns
returns c = grind (arith, common_steps, singles_from)
