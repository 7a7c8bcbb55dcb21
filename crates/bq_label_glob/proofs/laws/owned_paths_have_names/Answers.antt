use Rattle.bq_label_glob.proofs.GivenNames.{owned_has_name}
use Rattle.bq_label_glob.proofs.laws.owned_paths_have_names.Goals as goal

pub returns : goal.returns
returns c = owned_has_name
