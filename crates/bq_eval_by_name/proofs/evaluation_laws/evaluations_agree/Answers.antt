use Rattle.bq_eval_by_name.proofs.Evaluations as evaluations
use Rattle.bq_eval_by_name.proofs.evaluation_laws.evaluations_agree.Goals as goal

pub returns : goal.returns
returns c w rules host = evaluations.evaluations_agree rules host
