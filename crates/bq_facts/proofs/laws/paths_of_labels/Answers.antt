use Rattle.bq_facts.proofs.Paths.{path_of_label}
use Rattle.bq_facts.proofs.laws.paths_of_labels.Goals as goal

pub returns : goal.returns
returns c = path_of_label
