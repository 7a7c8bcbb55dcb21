use Rattle.std.proofs.Common.{arith}
use Rattle.std.proofs.lemmas.Grind.{common_steps}
use Rattle.bq_eval.proofs.loads.first_store.Goals as goal

pub loop-frozen-preserved : goal.loop-frozen-preserved
loop-frozen-preserved c = grind (arith, common_steps)

pub returns : goal.returns
returns c = grind (arith, common_steps)
