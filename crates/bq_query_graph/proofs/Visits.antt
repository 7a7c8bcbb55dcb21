-- One target of a row after another.
use Rattle.std.proofs.Common.{◌≡◌, ℕ, ◌+◌, ◌<◌, ◌≤◌, Bool, true, false, List, [], ◌∷◌, ◌++◌, ◌⊎◌, inl, inr, length, get_or, set, take, sym, ap, ◌∙◌, subst, arith}
use Rattle.std.specs.List.{Contains}
use Rattle.std.proofs.lemmas.List.{take_more, take_all}
use Rattle.std.proofs.lemmas.List.Elements.{Contains-append_left, Contains-push, Contains-push_cases}
use Rattle.std.proofs.lemmas.Bool.{false≢true}
use Rattle.bq_query_graph.specs.Marks.{Marked, Held, Grew}
use Rattle.bq_query_graph.proofs.Grows.{grew_none, grew_skip, grew_mark}

-- y is in the row before i, and is allowed
abbrev pub Before : List ℕ → List Bool → ℕ → ℕ → Type 0
Before row allowed i y = Contains (take i row) y × Marked allowed y

in_more : (row : List ℕ) (i y : ℕ) → i < length row → Contains (take i row) y → Contains (take (i + 1) row) y
in_more row i y l c = subst (λ (xs : List ℕ). Contains xs y) (sym (take_more row i 0 l)) (Contains-append_left (take i row) (get_or row i 0 ∷ []) y c)

in_here : (row : List ℕ) (i : ℕ) → i < length row → Contains (take (i + 1) row) (get_or row i 0)
in_here row i l = subst (λ (xs : List ℕ). Contains xs (get_or row i 0)) (sym (take_more row i 0 l)) (Contains-push (take i row) (get_or row i 0))

in_cases : (row : List ℕ) (i y : ℕ) → i < length row → Contains (take (i + 1) row) y → Contains (take i row) y ⊎ (y ≡ get_or row i 0)
in_cases row i y l c = elim (Contains-push_cases (take i row) (get_or row i 0) y (subst (λ (xs : List ℕ). Contains xs y) (take_more row i 0 l) c)) [ inl a ↦ inl a | inr e ↦ inr (sym e) ]

pub visit_none : (row : List ℕ) (allowed ms : List Bool) (q : List ℕ) → Held ms q → Grew (Before row allowed 0) ms q ms q
visit_none row allowed ms q held = grew_none (Before row allowed 0) ms q (λ y p. omega (arith, p.0.1)) held

pub visit_barred : (row : List ℕ) (allowed ms : List Bool) (q : List ℕ) (ns : List Bool) (r : List ℕ) (i : ℕ) → i < length row → get_or allowed (get_or row i 0) false ≡ false → Grew (Before row allowed i) ms q ns r → Grew (Before row allowed (i + 1)) ms q ns r
visit_barred row allowed ms q ns r i l e g =
    grew_skip (Before row allowed i) (Before row allowed (i + 1)) ms q ns r
    (λ y p. (in_more row i y l p.0, p.1))
    (λ y p. elim (in_cases row i y l p.0) [ inl a ↦ inl (a, p.1) | inr s ↦ absurd (false≢true (sym e ∙ ap (λ k. get_or allowed k false) (sym s) ∙ p.1)) ])
    g

pub visit_again : (row : List ℕ) (allowed ms : List Bool) (q : List ℕ) (ns : List Bool) (r : List ℕ) (i : ℕ) → i < length row → get_or ns (get_or row i 0) false ≡ true → Grew (Before row allowed i) ms q ns r → Grew (Before row allowed (i + 1)) ms q ns r
visit_again row allowed ms q ns r i l e g =
    grew_skip (Before row allowed i) (Before row allowed (i + 1)) ms q ns r
    (λ y p. (in_more row i y l p.0, p.1))
    (λ y p. elim (in_cases row i y l p.0) [ inl a ↦ inl (a, p.1) | inr s ↦ inr (ap (λ k. get_or ns k false) s ∙ e) ])
    g

pub visit_new : (row : List ℕ) (allowed ms : List Bool) (q : List ℕ) (ns : List Bool) (r : List ℕ) (i : ℕ) → i < length row → Marked allowed (get_or row i 0) → get_or row i 0 < length ns → get_or ns (get_or row i 0) false ≡ false → Grew (Before row allowed i) ms q ns r → Grew (Before row allowed (i + 1)) ms q (set ns (get_or row i 0) true) (r ++ get_or row i 0 ∷ [])
visit_new row allowed ms q ns r i l a w e g =
    grew_mark (Before row allowed i) (Before row allowed (i + 1)) ms q ns r (get_or row i 0)
    (λ y p. (in_more row i y l p.0, p.1))
    (λ y p. elim (in_cases row i y l p.0) [ inl b ↦ inl (b, p.1) | inr s ↦ inr s ])
    (in_here row i l, a) w e g

pub visit_all : (row : List ℕ) (allowed ms : List Bool) (q : List ℕ) (ns : List Bool) (r : List ℕ) (i : ℕ) → length row ≤ i → {xs : List ℕ} → row ≡ xs → Grew (Before row allowed i) ms q ns r → Grew (λ y. Contains xs y × Marked allowed y) ms q ns r
visit_all row allowed ms q ns r i l e g = subst (λ (zs : List ℕ). Grew (λ y. Contains zs y × Marked allowed y) ms q ns r) (take_all i row l ∙ e) g
