use Rattle.bq_load_laws.proofs.Calls.Paths.{callable_along_loads}
use Rattle.bq_load_laws.proofs.call.functions_of_loads_are_callable.Goals as goal

pub returns : goal.returns
returns c = callable_along_loads
