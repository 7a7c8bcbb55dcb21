-- what is left to compare has the answer
use Rattle.std.proofs.Common.{◌≡◌, ◌+◌, ◌*◌, drop}
use Rattle.bq_value_datum.specs.Datum.{weight, weights, data_of}
use Rattle.bq_value_datum.specs.Same.{same_all}
use Rattle.bq_value_datum.proofs.same.+same.Given as goal

abbrev pub decreases-is_same : goal.decreases-is_same
decreases-is_same l = 3 * weight l.a.now

abbrev pub decreases-is_same_tuple : goal.decreases-is_same_tuple
decreases-is_same_tuple l = 3 * weights (data_of l.xs.now) + 1

abbrev pub decreases-is_same_function : goal.decreases-is_same_function
decreases-is_same_function l = 3 * weights (data_of l.f.now.defaults.items) + 1

abbrev pub decreases-are_same : goal.decreases-are_same
decreases-are_same l = 3 * weights (data_of l.xs.now)

abbrev pub invariant-are_same-loop-i : goal.invariant-are_same-loop-i
invariant-are_same-loop-i l = same_all (data_of l.xs) (data_of l.ys) ≡ same_all (data_of (drop l.i l.xs)) (data_of (drop l.i l.ys))
