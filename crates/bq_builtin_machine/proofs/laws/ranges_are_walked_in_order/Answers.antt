use Rattle.bq_builtin_machine.proofs.Walking.{range_counted, range_at}
use Rattle.bq_builtin_machine.proofs.laws.ranges_are_walked_in_order.Goals as goal

pub returns : goal.returns
returns c = record { count = range_counted; element = range_at }
