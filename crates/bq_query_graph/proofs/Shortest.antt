-- A path that meets no target twice, and so has no more edges than there are targets.
use Rattle.std.proofs.Common.{◌≡◌, ℕ, ◌<◌, ◌≤◌, true, false, List, [], ◌∷◌, ◌⊎◌, inl, inr, length, sym, ap, ◌∙◌, subst, arith, eqb, eq-eqb, ne_eqb}
use Rattle.std.specs.Prelude.{◌||◌}
use Rattle.std.specs.List.{IsDistinct, AllByRecursion, list_any}
use Rattle.std.proofs.lemmas.Bool.{cases_eq}
use Rattle.std.proofs.lemmas.Map.Steps.{length-le_from_distinct_below}
use Rattle.bq_query_graph.specs.Paths.{IsPath}

abbrev pub Few : ℕ → List ℕ → Type 0
Few N us = (q : ℕ) → list_any (eqb q) us ≡ true → q < N

pub record Simple (E : ℕ → ℕ → Type 0) (N x y : ℕ) : Type 0 where
  pub through : List ℕ
  pub path : IsPath E x through y
  pub distinct : IsDistinct eqb (x ∷ through)
  pub below : Few N through

few_tail : (N u : ℕ) (us : List ℕ) → Few N (u ∷ us) → Few N us
few_tail N u us b q h = elim (cases_eq q u) [ inl e ↦ b q (ap (λ t. t || list_any (eqb q) us) (eq-eqb q u e)) | inr n ↦ b q (ap (λ t. t || list_any (eqb q) us) (ne_eqb q u n) ∙ h) ]

few_cons : (N u : ℕ) (us : List ℕ) → u < N → Few N us → Few N (u ∷ us)
few_cons N u us l b q h = elim (cases_eq q u) [ inl e ↦ omega (arith, e, l) | inr n ↦ b q (sym (ap (λ t. t || list_any (eqb q) us) (ne_eqb q u n)) ∙ h) ]

-- x is not met again, or the path begins where it is
find : (E : ℕ → ℕ → Type 0) → (N x z : ℕ) (us : List ℕ) (y : ℕ) → IsPath E z us y → IsDistinct eqb us → Few N us → AllByRecursion (λ w. eqb x w ≡ false) us ⊎ Simple E N x y
unfolding IsDistinct
find E N x z [] y p d b = inl tt
find E N x z (u ∷ us) y p d b =
    elim (cases_eq x u) [
      | inl e ↦ inr (record { through = us; path = subst (λ w. IsPath E w us y) (sym e) p.1; distinct = subst (λ w. IsDistinct eqb (w ∷ us)) (sym e) d; below = few_tail N u us b })
      | inr n ↦ elim (find E N x u us y p.1 d.1 (few_tail N u us b)) [ inl a ↦ inl (ne_eqb x u n, a) | inr s ↦ inr s ]
    ]

pub simple : (E : ℕ → ℕ → Type 0) → (N : ℕ) → ((a b : ℕ) → E a b → b < N) → (x : ℕ) (us : List ℕ) (y : ℕ) → IsPath E x us y → Simple E N x y
unfolding IsDistinct
simple E N into x [] y p = record { through = []; path = p; distinct = (tt, tt); below = λ q h. absurd (cc) }
simple E N into x (u ∷ us) y p =
    let r = simple E N into u us y p.1 in
    let b = few_cons N u r.through (into x u p.0) r.below in
    elim (find E N x x (u ∷ r.through) y (p.0, r.path) r.distinct b) [
      | inl a ↦ record { through = u ∷ r.through; path = (p.0, r.path); distinct = (a, r.distinct); below = b }
      | inr s ↦ s
    ]

pub simple_few : (E : ℕ → ℕ → Type 0) → (N x y : ℕ) → (s : Simple E N x y) → length s.through ≤ N
unfolding IsDistinct
simple_few E N x y s = length-le_from_distinct_below s.through N s.distinct.1 s.below
