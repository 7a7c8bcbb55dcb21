use Rattle.std.proofs.Common.{List, ℕ, length, ap, arith}
use Rattle.bq_query_graph.specs.Rows.{flat}
use Rattle.bq_query_graph.proofs.row_list.RowList.edges.Goals as goal

pub returns : goal.returns
returns c = omega (arith, ap length c.self.invariant.heads, ap (λ (g : List (List ℕ)). length (flat g)) c.self.view_is)
