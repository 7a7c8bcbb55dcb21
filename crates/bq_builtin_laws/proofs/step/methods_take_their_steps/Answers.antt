use Rattle.bq_builtin_laws.proofs.Steps.Methods.{method_owns}
use Rattle.bq_builtin_laws.proofs.step.methods_take_their_steps.Goals as goal

pub returns : goal.returns
returns c = method_owns
