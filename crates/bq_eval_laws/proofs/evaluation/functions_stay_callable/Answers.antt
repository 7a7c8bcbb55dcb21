use Rattle.bq_eval_laws.proofs.Evaluations.Callable.{stay_callable}
use Rattle.bq_eval_laws.proofs.evaluation.functions_stay_callable.Goals as goal

pub returns : goal.returns
returns c k names hosts = stay_callable names _ hosts
