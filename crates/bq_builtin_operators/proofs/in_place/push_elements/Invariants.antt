-- as many values are left to come
use Rattle.std.proofs.Common.{◌≡◌, ◌++◌, length}
use Rattle.bq_builtin_operators.proofs.in_place.push_elements.Given as goal

abbrev pub invariant-loop-value : goal.invariant-loop-value
invariant-loop-value l = l.values.items ++ l.more ≡ l.fn.values.items ++ l.fn.more

abbrev pub decreases-loop-value : goal.decreases-loop-value
decreases-loop-value l = length l.more
