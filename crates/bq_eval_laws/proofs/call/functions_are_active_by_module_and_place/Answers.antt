use Rattle.bq_eval_laws.proofs.Calls.Entering.{active_refused, other_entered}
use Rattle.bq_eval_laws.proofs.call.functions_are_active_by_module_and_place.Goals as goal

pub returns-clause-active : goal.returns-clause-active
returns-clause-active c = active_refused

pub returns-clause-other : goal.returns-clause-other
returns-clause-other c = other_entered
