use Rattle.bq_builtin_laws.proofs.Operators.Steps.{step_is_one}
use Rattle.bq_builtin_laws.proofs.operator.steps_that_are_left_out_are_one.Goals as goal

pub returns : goal.returns
returns c = step_is_one
