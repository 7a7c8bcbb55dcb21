use Rattle.std.proofs.Common.{◌∙◌, ◌∷◌, ◌++◌, [], ℕ, List, ap}
use Rattle.bq_query_graph.proofs.Lists.{stays_flat, flat_none}
use Rattle.bq_query_graph.proofs.row_list.RowList.new.Goals as goal

pub invariant_of-result : goal.invariant_of-result
invariant_of-result c = stays_flat [] _ _ (flat_none _ _ (c.in_ok-push.ensures.items ∙ ap (λ (z : List ℕ). z ++ 0 ∷ []) c.new-starts.ensures.items) c.new.ensures.items)
