use Rattle.std.proofs.Common.{◌≡◌, ℕ, ◌<◌, false, get_or}
use Rattle.bq_query_graph.proofs.sets.are_clear.Given as goal

abbrev pub invariant-loop-mark : goal.invariant-loop-mark
invariant-loop-mark l = l.some ≡ false → (y : ℕ) → y < l.mark-index → get_or l.marks y false ≡ false
