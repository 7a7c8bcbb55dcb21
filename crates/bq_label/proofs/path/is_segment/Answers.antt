use Rattle.std.proofs.Common.{arith}
use Rattle.std.proofs.lemmas.Grind.{common_steps}
use Rattle.bq_label.proofs.path.is_segment.Goals as goal

pub returns-else-ne : goal.returns-else-ne
returns-else-ne c = grind (arith, common_steps)
