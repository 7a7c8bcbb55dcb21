use Rattle.bq_eval_by_name.proofs.Bound as bound
use Rattle.bq_eval_by_name.proofs.evaluation_laws.ended_globals_are_bound.Goals as goal

pub returns-clause-counts : goal.returns-clause-counts
returns-clause-counts c w rules host = bound.counted rules host

pub returns-clause-bound : goal.returns-clause-bound
returns-clause-bound c w rules host = bound.globals_are_bound rules host
