use Rattle.bq_load_laws.proofs.Faults.Outcomes.{outcomes_declare}
use Rattle.bq_load_laws.proofs.Packages.Declared.{packages_declare}
use Rattle.bq_load_laws.proofs.package.packages_declare_their_targets.Goals as goal

pub returns-clause-outcomes : goal.returns-clause-outcomes
returns-clause-outcomes c = outcomes_declare

pub returns-clause-loaded : goal.returns-clause-loaded
returns-clause-loaded c = packages_declare
