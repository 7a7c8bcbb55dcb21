use Rattle.bq_eval_laws.proofs.Calls.Parameters.{parameters_begin, keywords_begin}
use Rattle.bq_eval_laws.proofs.call.parameters_begin_with_their_arguments.Goals as goal

pub returns-clause-arguments : goal.returns-clause-arguments
returns-clause-arguments c k m = parameters_begin m

pub returns-clause-keywords : goal.returns-clause-keywords
returns-clause-keywords c k m = keywords_begin m
