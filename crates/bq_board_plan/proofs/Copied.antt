-- A load graph that is copied, row after row.
use Rattle.std.proofs.Common.{◌≡◌, ◌∙◌, ◌+◌, ◌<◌, ◌≤◌, ℕ, List, [], ◌∷◌, ◌++◌, length, drop, sym, ap, subst, append_assoc}
use Rattle.std.proofs.lemmas.List.{drop_more, map_push, append-nil}
use Rattle.std.proofs.Math.ListN.{drop_of_length-le}
use Rattle.std.specs.Prelude.{Vec}
use Rattle.std.specs.declared.alloc.Global.{Global}
use Rattle.bq_board_plan.specs.Graph.{Loads, lists, row, IsGraph}

pub next_row : (edges : Loads) (m : ℕ) → m < length edges → (rows new : List (Vec ℕ Global)) (v : Vec ℕ Global) → new ≡ rows ++ v ∷ [] → v.items ≡ row edges m → lists rows ++ drop m edges ≡ edges
    → lists new ++ drop (m + 1) edges ≡ edges
next_row edges m h rows new v more is before =
    ap (λ (z : List (Vec ℕ Global)). lists z ++ drop (m + 1) edges) more
    ∙ (ap (λ (z : Loads). z ++ drop (m + 1) edges) (map_push (λ (z : Vec ℕ Global). z.items) rows v)
    ∙ (append_assoc (lists rows) (v.items ∷ []) (drop (m + 1) edges)
    ∙ (ap (λ (z : List ℕ). lists rows ++ (z ∷ drop (m + 1) edges)) is ∙ (ap (λ (z : Loads). lists rows ++ z) (sym (drop_more edges m [] h)) ∙ before))))

pub all_rows : (edges : Loads) (m : ℕ) → length edges ≤ m → (rows : List (Vec ℕ Global)) → lists rows ++ drop m edges ≡ edges → lists rows ≡ edges
all_rows edges m h rows before = sym (append-nil (lists rows)) ∙ (ap (λ (z : Loads). lists rows ++ z) (sym (drop_of_length-le edges h)) ∙ before)

pub is_graph : (edges : Loads) → IsGraph edges → (m : ℕ) → length edges ≤ m → (rows : List (Vec ℕ Global)) → lists rows ++ drop m edges ≡ edges → IsGraph (lists rows)
is_graph edges valid m h rows before = subst IsGraph (sym (all_rows edges m h rows before)) valid
