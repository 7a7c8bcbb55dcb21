use Rattle.bq_eval_laws.proofs.Frames.{functions}
use Rattle.bq_eval_laws.proofs.meaning.functions_begin_with_parameters.Goals as goal

pub returns : goal.returns
returns c k m = functions m
