use Rattle.bq_eval_laws.proofs.Running.{files_run}
use Rattle.bq_eval_laws.proofs.soundness.resolved_files_do_not_get_stuck.Goals as goal

pub returns : goal.returns
returns c k m L = files_run m L
