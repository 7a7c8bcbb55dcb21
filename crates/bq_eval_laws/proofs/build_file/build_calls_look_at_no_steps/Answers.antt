use Rattle.bq_eval_laws.proofs.BuildFiles.Calls.{calls_own}
use Rattle.bq_eval_laws.proofs.build_file.build_calls_look_at_no_steps.Goals as goal

pub returns : goal.returns
returns c = calls_own
