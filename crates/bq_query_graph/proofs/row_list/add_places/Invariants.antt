use Rattle.std.proofs.Common.{◌≡◌, ◌≤◌, ◌+◌, ◌++◌, ℕ, length, map, take, vec_len, vec_capacity}
use Rattle.bq_query_graph.proofs.row_list.add_places.Given as goal

abbrev pub invariant-loop-start : goal.invariant-loop-start
invariant-loop-start l = record {
  items : l.starts.items ≡ l.fn.starts.items ++ map (λ (n : ℕ). l.by + n) (take l.start-index l.further);
  room : vec_len l.starts + length l.further ≤ vec_capacity l.starts + l.start-index;
}
