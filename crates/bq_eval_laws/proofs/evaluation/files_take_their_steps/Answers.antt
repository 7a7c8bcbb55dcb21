use Rattle.bq_eval_laws.proofs.Evaluations.Files.{files_take}
use Rattle.bq_eval_laws.proofs.evaluation.files_take_their_steps.Goals as goal

pub returns : goal.returns
returns c k names hosts = files_take names _ hosts
