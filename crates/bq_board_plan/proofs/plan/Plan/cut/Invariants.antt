use Rattle.bq_board_plan.specs.Graph.{lists}
use Rattle.bq_board_plan.specs.Cut.{CutsBelow}
use Rattle.bq_board_plan.proofs.plan.Plan.cut.Given as goal

abbrev pub invariant-loop-m : goal.invariant-loop-m
invariant-loop-m l = CutsBelow l.graph l.m (lists l.rows.items)
