-- Sums over lists that change at one place, and how often a number occurs in a list.
use Rattle.std.proofs.Common.{◌≡◌, ℕ, zero, suc, ◌+◌, ◌<◌, ◌≤◌, ◌≢◌, ◌⊎◌, List, [], ◌∷◌, ◌++◌, length, set, sym, refl, ap, ◌∙◌, inl, inr, arith, cond, eqb, eq-eqb, ne_eqb}
use mathlib.Core.Logic.{dite}
use native.Mathlib.Decide.{ℕ_discrete}
use mathlib.Core.Option.{some, some-injective, some-ne-none}
use lib.ListN.{get_elem?}
use Rattle.bq_board_plan.specs.Counts.{total, times, Has, below}

module _ {A : Type 0} (g : A → ℕ) where
  pub total-append : (l m : List A) → total g (l ++ m) ≡ total g l + total g m
  total-append [] m = omega arith
  total-append (x ∷ xs) m = omega (arith, total-append xs m)

  pub total-set : (l : List A) (j : ℕ) (v w : A) → get_elem? l j ≡ some v → total g (set l j w) + g v ≡ total g l + g w
  total-set [] j v w e = absurd (some-ne-none v (sym e))
  total-set (x ∷ xs) zero v w e = omega (arith, ap g (some-injective x v e))
  total-set (x ∷ xs) (suc j) v w e = omega (arith, total-set xs j v w e)

  pub term_le : (l : List A) (j : ℕ) (v : A) → get_elem? l j ≡ some v → g v ≤ total g l
  term_le [] j v e = absurd (some-ne-none v (sym e))
  term_le (x ∷ xs) zero v e = omega (arith, ap g (some-injective x v e))
  term_le (x ∷ xs) (suc j) v e = omega (arith, term_le xs j v e)

  pub terms_le : (l : List A) (j k : ℕ) (v u : A) → k ≢ j → get_elem? l j ≡ some v → get_elem? l k ≡ some u → g v + g u ≤ total g l
  terms_le [] j k v u n e d = absurd (some-ne-none v (sym e))
  terms_le (x ∷ xs) zero zero v u n e d = absurd (n refl)
  terms_le (x ∷ xs) zero (suc k) v u n e d = omega (arith, ap g (some-injective x v e), term_le xs k u d)
  terms_le (x ∷ xs) (suc j) zero v u n e d = omega (arith, ap g (some-injective x u d), term_le xs j v e)
  terms_le (x ∷ xs) (suc j) (suc k) v u n e d = omega (arith, terms_le xs j k v u (λ h. n (ap suc h)) e d)

  -- a sum that is not 0 has a term that is not 0
  pub some_term : (l : List A) → 0 < total g l → (j : ℕ) × (v : A) × (get_elem? l j ≡ some v) × (0 < g v)
  some_term [] h = absurd (omega arith)
  some_term (x ∷ xs) h = dite (ℕ_discrete (g x) 0)
      (λ z. let r = some_term xs (omega arith) in (suc r.0, r.1, r.2, r.3)) (λ n. (0, x, refl, omega arith))

  pub total_below : (f : A → ℕ) (l : List A) → ((j : ℕ) (v : A) → get_elem? l j ≡ some v → f v ≤ g v) → total f l ≤ total g l
  total_below f [] h = omega arith
  total_below f (x ∷ xs) h = omega (arith, h 0 x refl, total_below f xs (λ j v e. h (suc j) v e))

pub total_more : {A : Type 0} (g : A → ℕ) (l : List A) → total (λ v. 1 + g v) l ≡ length l + total g l
total_more g [] = refl
total_more g (x ∷ xs) = omega (arith, total_more g xs)

pub total_same : {A : Type 0} (f g : A → ℕ) (l : List A) → ((j : ℕ) (v : A) → get_elem? l j ≡ some v → f v ≡ g v) → total f l ≡ total g l
total_same f g [] h = refl
total_same f g (x ∷ xs) h = omega (arith, h 0 x refl, total_same f g xs (λ j v e. h (suc j) v e))

abbrev pub one_at : ℕ → ℕ → ℕ
one_at x y = cond (eqb y x) 1 0

pub at_same : (x y : ℕ) → y ≡ x → one_at x y ≡ 1
at_same x y e = ap (λ b. cond b 1 0) (eq-eqb y x e)

pub at_other : (x y : ℕ) → y ≢ x → one_at x y ≡ 0
at_other x y n = ap (λ b. cond b 1 0) (ne_eqb y x n)

-- one more at the end
pub times_more : (x : ℕ) (ys : List ℕ) (y : ℕ) → times x (ys ++ y ∷ []) ≡ times x ys + one_at x y
times_more x ys y = omega (arith, total-append (one_at x) ys (y ∷ []))

pub times_same : (x : ℕ) (ys : List ℕ) → times x (ys ++ x ∷ []) ≡ times x ys + 1
times_same x ys = omega (arith, times_more x ys x, at_same x x refl)

pub times_other : (x : ℕ) (ys : List ℕ) (y : ℕ) → y ≢ x → times x (ys ++ y ∷ []) ≡ times x ys
times_other x ys y n = omega (arith, times_more x ys y, at_other x y n)

pub Has_more : (ys : List ℕ) (y x : ℕ) → Has ys x → Has (ys ++ y ∷ []) x
Has_more ys y x h = omega (arith, times_more x ys y)

-- what is in the longer list was in the shorter, or is the new number
pub Has_snoc : (ys : List ℕ) (y x : ℕ) → Has (ys ++ y ∷ []) x → Has ys x ⊎ (y ≡ x)
Has_snoc ys y x h = dite (ℕ_discrete y x) (λ e. inr e) (λ n. inl (omega (arith, times_other x ys y n)))

-- double counting: a list of numbers below n is as long as the numbers below n occur in it
pub below_zero : (f : ℕ → ℕ) (n : ℕ) → ((k : ℕ) → k < n → f k ≡ 0) → below f n ≡ 0
below_zero f zero h = refl
below_zero f (suc n) h = omega (arith, h n (omega arith), below_zero f n (λ k l. h k (omega arith)))

pub below_add : (f g : ℕ → ℕ) (n : ℕ) → below (λ k. f k + g k) n ≡ below f n + below g n
below_add f g zero = refl
below_add f g (suc n) = omega (arith, below_add f g n)

pub below_one : (y n : ℕ) → y < n → below (λ k. one_at k y) n ≡ 1
below_one y zero h = absurd (omega arith)
below_one y (suc n) h = dite (ℕ_discrete y n)
    (λ e. omega (arith, at_same n y e, below_zero (λ k. one_at k y) n (λ k l. at_other k y (λ d. omega arith))))
    (λ ne. omega (arith, at_other n y ne, below_one y n (omega arith)))

pub below_le : (f : ℕ → ℕ) (n : ℕ) → ((k : ℕ) → k < n → f k ≤ 1) → below f n ≤ n
below_le f zero h = omega arith
below_le f (suc n) h = omega (arith, h n (omega arith), below_le f n (λ k l. h k (omega arith)))

-- where each is at most 1 and all n come to n, each is 1
pub below_full : (f : ℕ → ℕ) (n : ℕ) → ((k : ℕ) → k < n → f k ≤ 1) → n ≤ below f n → (k : ℕ) → k < n → f k ≡ 1
below_full f zero h full k l = absurd (omega arith)
below_full f (suc n) h full k l = dite (ℕ_discrete k n)
    (λ e. ap f e ∙ omega (arith, h n (omega arith), below_le f n (λ j t. h j (omega arith))))
    (λ ne. below_full f n (λ j t. h j (omega arith)) (omega (arith, h n (omega arith))) k (omega arith))

pub length_times : (n : ℕ) (ys : List ℕ) → ((x : ℕ) → Has ys x → x < n) → length ys ≡ below (λ k. times k ys) n
length_times n [] h = sym (below_zero (λ k. 0) n (λ k l. refl))
length_times n (y ∷ ys) h = omega (arith, below_add (λ k. one_at k y) (λ k. times k ys) n, below_one y n (h y (omega (arith, at_same y y refl))), length_times n ys (λ x p. h x (omega arith)))

pub total_times : {A : Type 0} (f : A → List ℕ) (n : ℕ) (l : List A) → ((j : ℕ) (v : A) → get_elem? l j ≡ some v → (x : ℕ) → Has (f v) x → x < n)
    → total (λ v. length (f v)) l ≡ below (λ k. total (λ v. times k (f v)) l) n
total_times f n [] h = sym (below_zero (λ k. 0) n (λ k l. refl))
total_times f n (v ∷ vs) h = omega (arith, below_add (λ k. times k (f v)) (λ k. total (λ u. times k (f u)) vs) n, length_times n (f v) (h 0 v refl), total_times f n vs (λ j u e. h (suc j) u e))
