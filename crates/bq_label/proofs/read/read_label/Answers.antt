use Rattle.std.proofs.Common.{arith}
use Rattle.std.proofs.lemmas.Grind.{common_steps}
use Rattle.bq_label.specs.Reading.{parts_of, label_of}
use Rattle.bq_label.proofs.read.read_label.Goals as goal

pub returns-in_ok-share-in-58 : goal.returns-in_ok-share-in-58
unfolding parts_of label_of
returns-in_ok-share-in-58 c = grind (arith, common_steps)
