use Rattle.std.proofs.Common.{ℕ, ◌<◌, length}
use Rattle.bq_board_plan.specs.Counts.{Has}
use Rattle.bq_board_plan.specs.Graph.{row, lists}
use Rattle.bq_board_plan.proofs.graph.knows_all.Given as goal

abbrev pub invariant-loop-row : goal.invariant-loop-row
invariant-loop-row l = (m x : ℕ) → m < l.row-index → Has (row (lists l.rows) m) x → x < length l.rows
