use Rattle.bq_eval_laws.proofs.Loading.{loaded_globals}
use Rattle.bq_eval_laws.proofs.meaning.names_that_are_loaded_and_bound_begin_loaded.Goals as goal

pub returns : goal.returns
returns c k m = loaded_globals m
