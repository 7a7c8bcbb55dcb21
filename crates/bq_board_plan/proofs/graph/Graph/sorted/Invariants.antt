use Rattle.std.proofs.Common.{◌-◌, length}
use Rattle.bq_board_plan.specs.Sorting.{Sorting}
use Rattle.bq_board_plan.proofs.graph.Graph.sorted.Given as goal

abbrev pub invariant-loop-at : goal.invariant-loop-at
invariant-loop-at l = Sorting (l.self) l.at l.order.modules.items l.order.pending.items

abbrev pub decreases-loop-at : goal.decreases-loop-at
decreases-loop-at l = length l.self - l.at
