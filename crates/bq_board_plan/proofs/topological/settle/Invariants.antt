use Rattle.std.proofs.Common.{take}
use Rattle.bq_board_plan.specs.Sorting.{Settles}
use Rattle.bq_board_plan.proofs.topological.settle.Given as goal

abbrev pub invariant-loop-dependent : goal.invariant-loop-dependent
invariant-loop-dependent l = Settles (take l.dependent-index l.dependents) l.fn.pending.items l.pending.items l.fn.order.items l.order.items
