use Rattle.bq_load_laws.proofs.Faults.Numbered.{faults_stand, outcomes_stand, lines_stand, targets_stand}
use Rattle.bq_load_laws.proofs.fault.faults_stand_on_lines.Goals as goal

pub returns-clause-faults : goal.returns-clause-faults
returns-clause-faults c = faults_stand

pub returns-clause-outcomes : goal.returns-clause-outcomes
returns-clause-outcomes c = outcomes_stand

pub returns-clause-lines : goal.returns-clause-lines
returns-clause-lines c = lines_stand

pub returns-clause-targets : goal.returns-clause-targets
returns-clause-targets c = targets_stand
