use Rattle.std.proofs.Common.{arith}
use Rattle.std.proofs.lemmas.Grind.{common_steps}
use Rattle.bq_base_texts.specs.FaultLine.{put_lines}
use Rattle.bq_base_texts.proofs.fault_lines.FaultLines.add_all.Goals as goal

pub loop-line-preserved : goal.loop-line-preserved
unfolding put_lines
loop-line-preserved c = grind (arith, common_steps)

pub returns : goal.returns
unfolding put_lines
returns c = grind (arith, common_steps)
