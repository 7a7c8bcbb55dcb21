use Rattle.bq_builtin_machine.proofs.Walking.{function_left, function_once}
use Rattle.bq_builtin_machine.proofs.laws.functions_come_and_go.Goals as goal

pub returns : goal.returns
returns c = record { nothing_is_left = function_left; once = function_once }
