use Rattle.bq_label.proofs.BuildFiles.{packages_by_paths}
use Rattle.bq_label.proofs.laws.packages_by_paths.Goals as goal

pub returns : goal.returns
returns c = packages_by_paths
