use Rattle.std.proofs.Common.{arith}
use Rattle.std.proofs.lemmas.Grind.{common_steps}
use Rattle.bq_source.specs.StringLiteral.{quoted}
use Rattle.bq_eval.proofs.ending.quoted.Goals as goal

pub loop-byte-init : goal.loop-byte-init
loop-byte-init c = grind (arith, common_steps)

pub loop-byte-preserved : goal.loop-byte-preserved
loop-byte-preserved c = grind (arith, common_steps)

pub returns : goal.returns
unfolding quoted
returns c = grind (arith, common_steps)
