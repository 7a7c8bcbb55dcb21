use Rattle.bq_builtin_machine.proofs.Bindings.{arguments_arrive}
use Rattle.bq_builtin_machine.proofs.laws.arguments_go_to_their_parameters.Goals as goal

pub returns : goal.returns
returns c = arguments_arrive
