-- the rows so far, and those that are left
use Rattle.std.proofs.Common.{◌≡◌, ◌++◌, drop}
use Rattle.bq_board_plan.specs.Graph.{lists}
use Rattle.bq_board_plan.proofs.graph.Graph.copy.Given as goal

abbrev pub invariant-loop-m : goal.invariant-loop-m
invariant-loop-m l = lists l.rows.items ++ drop l.m l.self ≡ l.self
