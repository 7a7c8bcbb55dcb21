use Rattle.std.proofs.Common.{List, ℕ, length, ap, sym, subst, arith}
use Rattle.bq_query_graph.specs.Paths.{AreBelow}
use Rattle.bq_query_graph.proofs.Flats.{length_rows}
use Rattle.bq_query_graph.proofs.Lists.{list_has_rows}
use Rattle.bq_query_graph.proofs.row_list.RowList.row.Goals as goal

pub part-requires-clause-rows : goal.part-requires-clause-rows
part-requires-clause-rows c = rw (c.deref.ensures.value, c.deref-2.ensures.value) (list_has_rows _ _ _ c.self.invariant (subst (λ (g : List (List ℕ)). AreBelow g) (sym c.self.view_is) c.requires.below))

pub part-requires-clause-x : goal.part-requires-clause-x
part-requires-clause-x c = omega (arith, c.requires.x, length_rows c.self.inside.starts.items c.self.inside.heads.items, ap length c.self.view_is, ap length c.deref.ensures.value)

pub returns-clause-below : goal.returns-clause-below
returns-clause-below c k d h =
    let below = c.part.ensures.below k d h in
    omega (arith, below, length_rows c.self.inside.starts.items c.self.inside.heads.items, ap length c.self.view_is, ap length c.deref.ensures.value)
