-- The modules that are in no topological order are the cyclic ones.
use Rattle.std.proofs.Common.{◌≡◌, ℕ, zero, suc, ◌<◌, ◌≤◌, ◌⊎◌, Bool, true, false, List, [], ◌∷◌, ◌++◌, length, take, get_or, sym, refl, ap, ◌∙◌, inl, inr, arith, length-take}
use mathlib.Core.Bool.{◌||◌}
use mathlib.Core.Logic.{dite}
use native.Mathlib.Decide.{ℕ_discrete}
use Rattle.std.specs.List.{list_any}
use Rattle.std.proofs.lemmas.List.{get_or-take}
use Rattle.bq_board_plan.specs.Counts.{times, Has}
use Rattle.bq_board_plan.specs.Graph.{Loads, row, Known}
use Rattle.bq_board_plan.specs.Cycles.{starts_path, is_cyclic, HasPath, IsAcyclic}
use Rattle.bq_board_plan.specs.Topological.{IsTopologicalOrder}
use Rattle.bq_board_plan.proofs.Sums.{at_same, at_other, length_times, below_le}
use Rattle.bq_board_plan.proofs.Settling.{at_zero}
use Rattle.bq_board_plan.proofs.Turning.{is_zero-le}

pub bool_cases : (b : Bool) → (b ≡ true) ⊎ (b ≡ false)
bool_cases true = inl refl
bool_cases false = inr refl

pub or_left : (a b : Bool) → a ≡ true → (a || b) ≡ true
or_left true b h = refl
or_left false b h = absurd (cc)

pub or_right : (a b : Bool) → b ≡ true → (a || b) ≡ true
or_right true b h = refl
or_right false b h = h

pub or_none : (a b : Bool) → a ≡ false → b ≡ false → (a || b) ≡ false
or_none true b h k = absurd (cc)
or_none false b h k = k

pub or_some : (a b : Bool) → (a || b) ≡ true → (a ≡ true) ⊎ (b ≡ true)
or_some true b h = inl refl
or_some false b h = inr h

pub head_has : (x : ℕ) (xs : List ℕ) → Has (x ∷ xs) x
head_has x xs = omega (arith, at_same x x refl)

pub tail_has : (x : ℕ) (xs : List ℕ) (l : ℕ) → Has xs l → Has (x ∷ xs) l
tail_has x xs l h = omega arith

pub cons_has : (x : ℕ) (xs : List ℕ) (l : ℕ) → Has (x ∷ xs) l → (x ≡ l) ⊎ Has xs l
cons_has x xs l h = dite (ℕ_discrete x l) (λ e. inl e) (λ ne. inr (omega (arith, at_other l x ne)))

pub at_split : (xs : List ℕ) (x : ℕ) (ys : List ℕ) → Has (xs ++ x ∷ ys) x
at_split [] x ys = head_has x ys
at_split (y ∷ xs) x ys = tail_has y (xs ++ x ∷ ys) x (at_split xs x ys)

pub any_has : (f : ℕ → Bool) (xs : List ℕ) (l : ℕ) → Has xs l → f l ≡ true → list_any f xs ≡ true
any_has f [] l h t = absurd (omega arith)
any_has f (x ∷ xs) l h t = elim (cons_has x xs l h) [ inl e ↦ or_left (f x) (list_any f xs) (ap f e ∙ t) | inr k ↦ or_right (f x) (list_any f xs) (any_has f xs l k t) ]

pub any_none : (f : ℕ → Bool) (xs : List ℕ) → ((l : ℕ) → Has xs l → f l ≡ false) → list_any f xs ≡ false
any_none f [] h = refl
any_none f (x ∷ xs) h = or_none (f x) (list_any f xs) (h x (head_has x xs)) (any_none f xs (λ l k. h l (tail_has x xs l k)))

pub any_some : (f : ℕ → Bool) (xs : List ℕ) → list_any f xs ≡ true → (l : ℕ) × Has xs l × (f l ≡ true)
any_some f [] h = absurd (cc)
any_some f (x ∷ xs) h = elim (or_some (f x) (list_any f xs) h) [
  | inl t ↦ (x, head_has x xs, t)
  | inr k ↦ let r = any_some f xs k in (r.0, tail_has x xs r.0 r.1, r.2)
]

pub none_has : (f : ℕ → Bool) (xs : List ℕ) (l : ℕ) → list_any f xs ≡ false → Has xs l → f l ≡ false
none_has f xs l h k = elim (bool_cases (f l)) [ inl t ↦ (let e : list_any f xs ≡ true = any_has f xs l k t in absurd (cc)) | inr n ↦ n ]

-- where no path of k edges starts, no longer one does
pub longer : (p : Loads) (k n m : ℕ) → k ≤ n → starts_path p k m ≡ false → starts_path p n m ≡ false
unfolding starts_path
longer p zero n m h e = absurd (cc)
longer p (suc k) zero m h e = absurd (omega arith)
longer p (suc k) (suc n) m h e = any_none (starts_path p n) (row p m) (λ l t. longer p k n l (omega arith) (none_has (starts_path p k) (row p m) l e t))

pub loads_acyclic : (p : Loads) (n m l : ℕ) → starts_path p (suc n) m ≡ false → Has (row p m) l → starts_path p n l ≡ false
unfolding starts_path
loads_acyclic p n m l e h = none_has (starts_path p n) (row p m) l e h

pub place : (xs : List ℕ) (l : ℕ) → Has xs l → (k : ℕ) × (k < length xs) × (get_or xs k 0 ≡ l)
place [] l h = absurd (omega arith)
place (x ∷ xs) l h = elim (cons_has x xs l h) [ inl e ↦ (0, omega arith, e) | inr k ↦ let r = place xs l k in (suc r.0, omega (arith, r.1), r.2) ]

module _ (p : Loads) (known : Known p) (order pending : List ℕ) (d : IsTopologicalOrder p order pending) where
  pub shallow : (n i : ℕ) → i < n → i < length order → starts_path p (suc i) (get_or order i 0) ≡ false
  unfolding starts_path
  shallow zero i h lt = absurd (omega arith)
  shallow (suc n) i h lt = any_none (starts_path p i) (row p (get_or order i 0)) (λ l t.
      let k = place (take i order) l (d.after i l lt t) in
      let short : k.0 < i = omega (arith, k.1, length-take i order) in
      let at : get_or order k.0 0 ≡ l = sym (get_or-take i order k.0 0 short) ∙ k.2 in
      let e : starts_path p (suc k.0) l ≡ false = ap (starts_path p (suc k.0)) (sym at) ∙ shallow n k.0 (omega arith) (omega arith) in
      longer p (suc k.0) i l (omega arith) e)

  pub few_ordered : length order ≤ length p
  few_ordered = omega (arith, length_times (length p) order d.within, below_le (λ k. times k order) (length p) (λ k h. omega (arith, d.once k h, is_zero-le (get_or pending k 0))))

  pub in_order : (u : ℕ) → u < length p → get_or pending u 0 ≡ 0 → Has order u
  in_order u h e = omega (arith, d.once u h, at_zero (get_or pending u 0) e)

  pub not_cyclic : (u : ℕ) → u < length p → get_or pending u 0 ≡ 0 → is_cyclic p u ≡ false
  not_cyclic u h e = let k = place order u (in_order u h e) in
      ap (starts_path p (suc (length p))) (sym k.2) ∙ longer p (suc k.0) (suc (length p)) (get_or order k.0 0) (omega (arith, few_ordered, k.1)) (shallow (suc k.0) k.0 (omega arith) k.1)

  pub stuck : (n u : ℕ) → u < length p → 0 < get_or pending u 0 → starts_path p n u ≡ true
  unfolding starts_path
  stuck zero u h pos = refl
  stuck (suc n) u h pos = let r = d.rest u h pos in any_has (starts_path p n) (row p u) r.0 r.1 (stuck n r.0 r.2 r.3)

-- the computed test is the relation
pub path_is : (p : Loads) (n m : ℕ) → starts_path p n m ≡ true → HasPath p n m
unfolding starts_path
path_is p zero m h = tt
path_is p (suc n) m h = let r = any_some (starts_path p n) (row p m) h in (r.0, r.1, path_is p n r.0 r.2)

pub is_path : (p : Loads) (n m : ℕ) → HasPath p n m → starts_path p n m ≡ true
unfolding starts_path
is_path p zero m h = refl
is_path p (suc n) m h = any_has (starts_path p n) (row p m) h.0 h.1 (is_path p n h.0 h.2)

-- where not all are acyclic, one is cyclic
cyclic_below : (p : Loads) (n : ℕ) → ((m : ℕ) → m < n → is_cyclic p m ≡ false) ⊎ ((m : ℕ) × (m < n) × (is_cyclic p m ≡ true))
cyclic_below p zero = inl (λ m h. absurd (omega arith))
cyclic_below p (suc n) = elim (bool_cases (is_cyclic p n)) [
  | inl is ↦ inr (n, omega arith, is)
  | inr not ↦ elim (cyclic_below p n) [
    | inl none ↦ inl (λ m h. dite (ℕ_discrete m n) (λ e. ap (is_cyclic p) e ∙ not) (λ ne. none m (omega arith)))
    | inr some ↦ inr (some.0, omega (arith, some.1), some.2)
  ]
]

pub some_cyclic : (p : Loads) → ¬ IsAcyclic p → (m : ℕ) × (m < length p) × (is_cyclic p m ≡ true)
some_cyclic p h = elim (cyclic_below p (length p)) [ inl none ↦ absurd (h none) | inr some ↦ some ]
