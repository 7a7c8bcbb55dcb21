-- The rows of targets have just the edges of the list.
use Rattle.std.proofs.Common.{◌≡◌, ◌<◌, ◌+◌, ◌∙◌, ℕ, List, [], ◌∷◌, ◌++◌, Option, Some, None, length, take, drop, position, get_or, refl, sym, ap}
use Rattle.std.proofs.lemmas.List.{length-map, map-append, map_push, take-append-drop}
use Rattle.std.specs.List.Sorted.{IsStrictlySortedBy}
use Rattle.bq_label.specs.Label.{LabelParts}
use Rattle.bq_query_graph.specs.Paths.{AreBelow}
use Rattle.bq_query_graph.specs.Edges.{Edge, edges_out, edges_of, HasPairsOf}
use Rattle.bq_query_graph.proofs.Turned.{pairs_are, pairs_below}
use Rattle.bq_package_target.specs.declared.target.Target.{Target}
use Rattle.bq_label_set.specs.Labels.{same_label}
use Rattle.bq_query_target_graph.specs.Order.{target_cmp, target_labels}
use Rattle.bq_query_target_graph.specs.Edges.{looked_up, edge_by, edges_to, edges_from, number_by, numbers_of, row_of, rows_of}
use Rattle.bq_query_target_graph.proofs.Ascends.{distinct_from_order}
use Rattle.bq_query_target_graph.proofs.Depends.{are_between}
use Rattle.bq_query_target_graph.proofs.Lists.{next_taken}

-- ---- the edges of a row

out_by : (a : ℕ) (o : Option ℕ) (rest : List ℕ) → edges_out a (number_by o ++ rest) ≡ edge_by a o ++ edges_out a rest
out_by a None rest = refl
out_by a (Some b) rest = refl

numbers_edges : (ls : List LabelParts) (a : ℕ) (named : List LabelParts) → edges_out a (numbers_of ls named) ≡ edges_to ls a named
numbers_edges ls a [] = refl
numbers_edges ls a (l ∷ named) =
    let o : Option ℕ = position (same_label l) ls in
    out_by a o (numbers_of ls named) ∙ ap (λ (z : List Edge). edge_by a o ++ z) (numbers_edges ls a named)

rows_edges : (ls : List LabelParts) (a : ℕ) (ts : List Target) → edges_of a (rows_of ls ts) ≡ edges_from ls a ts
unfolding edges_of edges_from
rows_edges ls a [] = refl
rows_edges ls a (t ∷ ts) =
    ap (λ (z : List Edge). z ++ edges_of (a + 1) (rows_of ls ts)) (numbers_edges ls a (looked_up t)) ∙ ap (λ (z : List Edge). edges_to ls a (looked_up t) ++ z) (rows_edges ls (a + 1) ts)

-- ---- rows have the pairs of the list, and lead to targets

module _ (ts : List Target) (g : List (List ℕ)) (e : g ≡ rows_of (target_labels ts) ts) where
  long : length g ≡ length ts
  long = ap length e ∙ length-map ts (row_of (target_labels ts))

  all : edges_of 0 g ≡ edges_from (target_labels ts) 0 ts
  all = ap (edges_of 0) e ∙ rows_edges (target_labels ts) 0 ts

  pub rows_pairs : HasPairsOf (length ts) (edges_from (target_labels ts) 0 ts) g
  rows_pairs = pairs_are (length ts) (edges_from (target_labels ts) 0 ts) g long all

  pub rows_below : IsStrictlySortedBy target_cmp ts → AreBelow g
  rows_below s = pairs_below (length ts) (edges_from (target_labels ts) 0 ts) g long all (are_between ts (distinct_from_order ts s))

-- ---- rows of targets are those of the first of them and those of the rest

pub rows_cut : (ls : List LabelParts) (k : ℕ) (ts : List Target) → rows_of ls ts ≡ rows_of ls (take k ts) ++ rows_of ls (drop k ts)
rows_cut ls k ts = ap (rows_of ls) (sym (take-append-drop k ts)) ∙ map-append (row_of ls) (take k ts) (drop k ts)

-- one more
pub rows_next : (ls : List LabelParts) (ts : List Target) (i : ℕ) (t : Target) (g h : List (List ℕ)) → i < length ts → t ≡ get_or ts i t → g ≡ rows_of ls (take i ts) → h ≡ g ++ row_of ls t ∷ [] → h ≡ rows_of ls (take (i + 1) ts)
rows_next ls ts i t g h l e p q =
    q ∙ (ap (λ (z : List (List ℕ)). z ++ row_of ls t ∷ []) p ∙ (sym (map_push (row_of ls) (take i ts) t) ∙ ap (rows_of ls) (sym (next_taken ts i t l e))))
