use Rattle.std.proofs.Common.{◌≡◌, ℕ, [], vec_len, get_or}
use Rattle.bq_board_plan.specs.Graph.{lists}
use Rattle.bq_board_plan.proofs.graph.empty_rows.Given as goal

abbrev pub invariant-loop : goal.invariant-loop
invariant-loop l = (vec_len l.rows ≡ l.counter) × ((m : ℕ) → get_or (lists l.rows.items) m [] ≡ [])
