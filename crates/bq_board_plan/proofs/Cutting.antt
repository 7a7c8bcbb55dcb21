-- A load graph without the loads of its cyclic modules is a plan.
use Rattle.std.proofs.Common.{◌≡◌, ℕ, zero, suc, ◌+◌, ◌≤◌, true, false, List, [], ◌∷◌, ◌++◌, length, sym, refl, ap, subst, ◌∙◌, inl, inr, arith, length-append}
use Rattle.std.proofs.lemmas.List.{get_or_past, get_or_push, get_or_append_left, length_push}
use mathlib.Core.Logic.{dite}
use native.Mathlib.Decide.{ℕ_discrete, dec_lt}
use Rattle.bq_board_plan.specs.Counts.{Has}
use Rattle.bq_board_plan.specs.Cycles.{is_cyclic, HasPath, TestsPaths}
use Rattle.bq_board_plan.specs.Depth.{is_too_deep}
use Rattle.bq_board_plan.specs.Graph.{Loads, row, sources, edges}
use Rattle.bq_board_plan.proofs.Paths.{bool_cases}
use Rattle.bq_board_plan.specs.Cut.{IsCut, IsCutRow, CutsBelow, CutsToPlan}

none_in : (xs : List ℕ) (l : ℕ) → xs ≡ [] → ¬ Has xs l
none_in xs l e h = let P : List ℕ → Type 0 = λ t. Has t l in let g : Has [] l = subst P e h in absurd (omega arith)

edges_le : (q p : Loads) → length q ≡ length p → ((m : ℕ) → length (row q m) ≤ length (row p m)) → edges q ≤ edges p
edges_le [] p e h = omega arith
edges_le (r ∷ rs) [] e h = absurd (omega arith)
edges_le (r ∷ rs) (s ∷ ss) e h = omega (arith, length-append r (sources rs), length-append s (sources ss), h 0, edges_le rs ss (omega arith) (λ m. h (suc m)))

module _ (p q : Loads) (c : IsCut p q) where
  sub : (m l : ℕ) → Has (row q m) l → Has (row p m) l
  sub m l h = let r = c.each m in elim (bool_cases (is_cyclic p m)) [
    | inl t ↦ absurd (none_in (row q m) l (r.cyclic t) h)
    | inr n ↦ elim (bool_cases (is_too_deep p m)) [
      | inl t ↦ absurd (none_in (row q m) l (r.deep t) h)
      | inr k ↦ subst (λ (t : List ℕ). Has t l) (r.rest n k) h
    ]
  ]

  shorter : (m : ℕ) → length (row q m) ≤ length (row p m)
  shorter m = let r = c.each m in elim (bool_cases (is_cyclic p m)) [
    | inl t ↦ omega (arith, ap length (r.cyclic t))
    | inr n ↦ elim (bool_cases (is_too_deep p m)) [
      | inl t ↦ omega (arith, ap length (r.deep t))
      | inr k ↦ omega (arith, ap length (r.rest n k))
    ]
  ]

  paths : (n m : ℕ) → HasPath q n m → HasPath p n m
  paths zero m h = tt
  paths (suc n) m h = (h.0, sub m h.0 h.1, paths n h.0 h.2)

  acyclic : TestsPaths p → TestsPaths q → (m : ℕ) → is_cyclic q m ≡ false
  acyclic tp tq m = elim (bool_cases (is_cyclic q m)) [
    | inr n ↦ n
    | inl t ↦
        let path : HasPath q (suc (length q)) m = (tq (suc (length q)) m).0 t in
        let wide : HasPath q (suc (length p)) m = subst (λ (n : ℕ). HasPath q (suc n) m) c.wide path in
        let is : is_cyclic p m ≡ true = (tp (suc (length p)) m).1 (paths (suc (length p)) m wide) in
        absurd (none_in (row q m) path.0 ((c.each m).cyclic is) path.1)
  ]

  pub cut_plan : TestsPaths p → TestsPaths q → CutsToPlan p q
  cut_plan tp tq g _ = (
    (
      (omega (arith, c.wide, g.0.0), omega (arith, edges_le q p c.wide shorter, g.0.1)),
      (λ m l h. omega (arith, c.wide, g.1 m l (sub m l h))),
    ),
    (λ m _. acyclic tp tq m),
  )

pub cuts_none : (p : Loads) → CutsBelow p 0 []
cuts_none p = record { wide = refl; each = λ m h. absurd (omega arith) }

pub cuts_more : (p : Loads) (i : ℕ) (q : Loads) (r : List ℕ) → CutsBelow p i q → IsCutRow p i r → CutsBelow p (i + 1) (q ++ r ∷ [])
cuts_more p i q r c a = record {
  wide = length_push q r ∙ ap (λ n. n + 1) c.wide;
  each = λ m h. dite (ℕ_discrete m i)
      (λ e. let P : ℕ → Type 0 = λ k. IsCutRow p k (row (q ++ r ∷ []) k) in
      subst P (sym e) (subst (IsCutRow p i) (sym (get_or_push q r [] i c.wide)) a))
      (λ ne. subst (IsCutRow p m) (sym (get_or_append_left q (r ∷ []) [] m (omega (arith, c.wide)))) (c.each m (omega arith)));
}

-- past the modules there are no loads
past_all : (p : Loads) (m : ℕ) → length p ≤ m → IsCutRow p m []
past_all p m h = record { cyclic = λ _. refl; deep = λ _. refl; rest = λ _ _. sym (get_or_past p m [] h) }

pub cuts_all : (p : Loads) (i : ℕ) (q : Loads) → length p ≤ i → i ≤ length p → CutsBelow p i q → IsCut p q
cuts_all p i q le ge c = record {
  wide = omega (arith, c.wide);
  each = λ m. dite (dec_lt m i) (λ lt. c.each m lt) (λ n. subst (IsCutRow p m) (sym (get_or_past q m [] (omega (arith, c.wide)))) (past_all p m (omega arith)));
}
