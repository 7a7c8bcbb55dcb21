use Rattle.bq_builtin_laws.proofs.Steps.Functions.{function_owns}
use Rattle.bq_builtin_laws.proofs.step.functions_take_their_steps.Goals as goal

pub returns : goal.returns
returns c = function_owns
