use Rattle.bq_eval_laws.proofs.Evaluations.Files.{modules_stay}
use Rattle.bq_eval_laws.proofs.evaluation.other_modules_stay.Goals as goal

pub returns : goal.returns
returns c k names hosts = modules_stay names _ hosts
