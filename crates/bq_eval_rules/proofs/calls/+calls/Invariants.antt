use Rattle.std.proofs.Common.{◌+◌, ◌*◌}
use Rattle.bq_eval_rules.proofs.calls.+calls.Given as goal

abbrev pub decreases-run_body : goal.decreases-run_body
decreases-run_body g l = 6 * l.context.now.left

abbrev pub decreases-run_entered : goal.decreases-run_entered
decreases-run_entered g l = 6 * l.context.now.left + 1

abbrev pub decreases-call_function : goal.decreases-call_function
decreases-call_function g l = 6 * l.context.now.left + 2

abbrev pub decreases-call_at : goal.decreases-call_at
decreases-call_at g l = 6 * l.context.now.left + 3

abbrev pub decreases-call_value : goal.decreases-call_value
decreases-call_value g l = 6 * l.context.now.left + 4

abbrev pub decreases-call : goal.decreases-call
decreases-call g l = 6 * l.context.now.left + 5
