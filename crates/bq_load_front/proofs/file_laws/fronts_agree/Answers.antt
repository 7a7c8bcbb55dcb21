use Rattle.bq_load_front.proofs.ByName as by_name
use Rattle.bq_load_front.proofs.file_laws.fronts_agree.Goals as goal

pub returns-clause-fronts : goal.returns-clause-fronts
returns-clause-fronts c = by_name.fronts_agree

pub returns-clause-loads : goal.returns-clause-loads
returns-clause-loads c = by_name.loads_agree
