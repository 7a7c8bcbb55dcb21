use Rattle.bq_load_laws.proofs.Outcomes.FirstLoad.{names_the_first}
use Rattle.bq_load_laws.proofs.Outcomes.Loads.{modules_name_their_loads}
use Rattle.bq_load_laws.proofs.outcome.faults_of_loads_name_the_first_load.Goals as goal

pub returns-clause-first : goal.returns-clause-first
returns-clause-first c = names_the_first

pub returns-clause-loaded : goal.returns-clause-loaded
returns-clause-loaded c = modules_name_their_loads
