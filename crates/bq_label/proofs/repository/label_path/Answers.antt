use Rattle.std.proofs.Common.{arith}
use Rattle.bq_label.specs.Packages.{label_path}
use Rattle.std.proofs.lemmas.Grind.{common_steps}
use Rattle.bq_label.proofs.repository.label_path.Goals as goal

pub returns : goal.returns
unfolding label_path
returns c = grind (arith, common_steps)
