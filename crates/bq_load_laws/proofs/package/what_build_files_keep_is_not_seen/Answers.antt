use Rattle.bq_load_laws.proofs.Packages.Kept.{outcomes_stay, results_tell}
use Rattle.bq_load_laws.proofs.package.what_build_files_keep_is_not_seen.Goals as goal

pub returns-clause-outcomes : goal.returns-clause-outcomes
returns-clause-outcomes c = outcomes_stay

pub returns-clause-told : goal.returns-clause-told
returns-clause-told c = results_tell
