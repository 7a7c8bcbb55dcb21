use Rattle.std.proofs.Common.{take}
use Rattle.bq_board_plan.specs.Sorting.{Adds}
use Rattle.bq_board_plan.specs.Graph.{lists}
use Rattle.bq_board_plan.proofs.topological.add_dependent.Given as goal

abbrev pub invariant-loop-l : goal.invariant-loop-l
invariant-loop-l l = Adds l.u (take l.l-index l.loaded) (lists l.fn.dependents.items) (lists l.dependents.items)
