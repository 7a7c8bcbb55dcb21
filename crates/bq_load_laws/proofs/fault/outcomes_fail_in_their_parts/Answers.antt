use Rattle.bq_load_laws.proofs.Faults.Outcomes.{outcomes_fail, loaded_fail}
use Rattle.bq_load_laws.proofs.fault.outcomes_fail_in_their_parts.Goals as goal

pub returns-clause-outcomes : goal.returns-clause-outcomes
returns-clause-outcomes c = outcomes_fail

pub returns-clause-loaded : goal.returns-clause-loaded
returns-clause-loaded c = loaded_fail
