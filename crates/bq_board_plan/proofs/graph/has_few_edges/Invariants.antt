use Rattle.std.proofs.Common.{◌≡◌, ◌+◌}
use Rattle.bq_board_plan.specs.Plan.{start}
use Rattle.bq_board_plan.specs.Graph.{lists}
use Rattle.bq_board_plan.proofs.graph.has_few_edges.Given as goal

abbrev pub invariant-loop-row : goal.invariant-loop-row
invariant-loop-row l = l.left + start (lists l.rows) l.row-index ≡ l.fn.most
