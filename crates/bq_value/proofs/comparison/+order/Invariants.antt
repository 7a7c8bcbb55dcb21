-- two calls for each level; what is left to order has the answer
use Rattle.std.proofs.Common.{◌≡◌, ◌≤◌, ◌+◌, ◌*◌, drop, length}
use Rattle.bq_value.specs.Equality.{equal_at}
use Rattle.bq_value.specs.Order.{ordered_at, lists_ordered}
use Rattle.bq_value.proofs.comparison.+order.Given as goal

abbrev pub decreases-values_ordered : goal.decreases-values_ordered
decreases-values_ordered l = 4 * l.levels

abbrev pub decreases-cells_ordered : goal.decreases-cells_ordered
decreases-cells_ordered l = 4 * l.levels + 2

abbrev pub decreases-slices_ordered : goal.decreases-slices_ordered
decreases-slices_ordered l = 4 * l.levels + 1

abbrev pub invariant-slices_ordered-loop-i : goal.invariant-slices_ordered-loop-i
invariant-slices_ordered-loop-i l =
    (l.i ≤ length l.ys) × (lists_ordered (equal_at l.levels l.store) (ordered_at l.levels l.store) l.fn.steps l.xs l.ys
    ≡ lists_ordered (equal_at l.levels l.store) (ordered_at l.levels l.store) l.left (drop l.i l.xs) (drop l.i l.ys))

abbrev pub decreases-tuples : goal.decreases-tuples
decreases-tuples l = 4 * l.levels + 2

abbrev pub decreases-cells : goal.decreases-cells
decreases-cells l = 4 * l.levels + 3
