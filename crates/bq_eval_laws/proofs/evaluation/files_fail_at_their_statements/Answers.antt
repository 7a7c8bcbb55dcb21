use Rattle.bq_eval_laws.proofs.Evaluations.Lines.{files_fail_at}
use Rattle.bq_eval_laws.proofs.evaluation.files_fail_at_their_statements.Goals as goal

pub returns : goal.returns
returns c k names hosts = files_fail_at names _ hosts
