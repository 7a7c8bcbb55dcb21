use Rattle.std.proofs.Common.{arith}
use Rattle.std.proofs.lemmas.Grind.{common_steps}
use Rattle.bq_package_schema.specs.Reading.{declared_by}
use Rattle.bq_package_schema.proofs.read.read_lines.Goals as goal

pub loop-before-preserved : goal.loop-before-preserved
unfolding declared_by
loop-before-preserved c = grind (arith, common_steps)

pub returns : goal.returns
unfolding declared_by
returns c = grind (arith, common_steps)
