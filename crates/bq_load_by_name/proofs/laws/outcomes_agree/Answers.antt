use Rattle.bq_load_by_name.proofs.Outcomes as outcomes
use Rattle.bq_load_by_name.proofs.laws.outcomes_agree.Goals as goal

pub returns-clause-outcomes : goal.returns-clause-outcomes
returns-clause-outcomes c files rules limit g is = outcomes.outcomes_agree files rules limit g is

pub returns-clause-workspaces : goal.returns-clause-workspaces
returns-clause-workspaces c files rules limit r = outcomes.workspaces_agree files rules limit r
