use Rattle.bq_builtin_machine.proofs.Walking.{steps_fall}
use Rattle.bq_builtin_machine.proofs.laws.steps_only_fall.Goals as goal

pub returns : goal.returns
returns c = steps_fall
