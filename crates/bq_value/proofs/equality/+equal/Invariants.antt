-- two calls for each level; what is left to compare has the answer
use Rattle.std.proofs.Common.{◌≡◌, ◌+◌, ◌*◌, drop}
use Rattle.bq_value.specs.Equality.{equal_at, all_equal, pairs_equal}
use Rattle.bq_value.proofs.equality.+equal.Given as goal

abbrev pub decreases-values_equal : goal.decreases-values_equal
decreases-values_equal l = 4 * l.levels

abbrev pub decreases-tuple_equal : goal.decreases-tuple_equal
decreases-tuple_equal l = 4 * l.levels + 2

abbrev pub decreases-cell_equal : goal.decreases-cell_equal
decreases-cell_equal l = 4 * l.levels + 3

abbrev pub decreases-contents_equal : goal.decreases-contents_equal
decreases-contents_equal l = 4 * l.levels + 2

abbrev pub decreases-slices_equal : goal.decreases-slices_equal
decreases-slices_equal l = 4 * l.levels + 1

abbrev pub decreases-entries_equal : goal.decreases-entries_equal
decreases-entries_equal l = 4 * l.levels + 1

abbrev pub invariant-slices_equal-loop-i : goal.invariant-slices_equal-loop-i
invariant-slices_equal-loop-i l =
    all_equal (equal_at l.levels l.store) l.fn.steps l.xs l.ys ≡ all_equal (equal_at l.levels l.store) l.left (drop l.i l.xs) (drop l.i l.ys)

abbrev pub invariant-entries_equal-loop-i : goal.invariant-entries_equal-loop-i
invariant-entries_equal-loop-i l =
    pairs_equal (equal_at l.levels l.store) l.fn.steps l.ps l.qs ≡ pairs_equal (equal_at l.levels l.store) l.left (drop l.i l.ps) l.qs
