use Rattle.bq_label.proofs.BuildFiles.{packages_apart}
use Rattle.bq_label.proofs.laws.one_entry_each.Goals as goal

pub returns : goal.returns
returns c = packages_apart
