use Rattle.std.proofs.Common.{◌≡◌, ℕ, ◌<◌, false, length, get_or}
use Rattle.std.specs.Prelude.{◌||◌}
use Rattle.bq_query_graph.proofs.sets.union.Given as goal

abbrev pub invariant-loop-i : goal.invariant-loop-i
invariant-loop-i l = record { long : length l.r.items ≡ length l.xs; each : (k : ℕ) → k < l.i → get_or l.r.items k false ≡ (get_or l.xs k false || get_or l.ys k false) }
