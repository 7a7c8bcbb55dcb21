use Rattle.std.proofs.Common.{◌≤◌, ◌+◌, ◌*◌, vec_len}
use Rattle.bq_value_datum.specs.Datum.{data_of, weights}
use Rattle.bq_value_datum.proofs.value.+give_up.Given as goal

abbrev pub decreases-drop_tuple : goal.decreases-drop_tuple
decreases-drop_tuple l = 3 * (weights (data_of l.items.value.items) + 1)

abbrev pub decreases-drop_function : goal.decreases-drop_function
decreases-drop_function l = 3 * (weights (data_of l.function.value.defaults.items) + 1)

abbrev pub decreases-give_up : goal.decreases-give_up
decreases-give_up l = 3 * weights (data_of l.left.items) + 2

abbrev pub decreases-move_all : goal.decreases-move_all
decreases-move_all l = 3 * (weights (data_of l.items.items) + weights (data_of l.left.now.items)) + 1

abbrev pub decreases-give_up-loop-value : goal.decreases-give_up-loop-value
decreases-give_up-loop-value l = weights (data_of l.left.items)

abbrev pub invariant-give_up-loop-value : goal.invariant-give_up-loop-value
invariant-give_up-loop-value l = weights (data_of l.left.items) ≤ weights (data_of l.fn.left.items)

abbrev pub invariant-move_all-loop-item : goal.invariant-move_all-loop-item
invariant-move_all-loop-item l =
    weights (data_of l.left.items) + weights (data_of l.items.items) ≤ weights (data_of l.fn.left.items) + weights (data_of l.fn.items.items)

abbrev pub decreases-move_all-loop-item : goal.decreases-move_all-loop-item
decreases-move_all-loop-item l = vec_len l.items
