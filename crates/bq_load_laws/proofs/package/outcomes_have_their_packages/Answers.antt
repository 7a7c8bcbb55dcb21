use Rattle.bq_load_laws.proofs.Packages.Outcomes.{all_have_theirs}
use Rattle.bq_load_laws.proofs.package.outcomes_have_their_packages.Goals as goal

pub returns : goal.returns
returns c = all_have_theirs
