-- The elements at the places of a range.
use Rattle.std.proofs.Common.{◌≡◌, ◌∙◌, ◌+◌, ◌*◌, ◌<◌, ◌≤◌, ℕ, zero, suc, ℤ, pos, List, [], ◌∷◌, Some, length, take, drop, refl, sym, ap, subst, arith, add-one, drop-cons}
use Rattle.std.specs.Prelude.{negsuc, neg_ℤ, ◌+ℤ◌, ◌*ℤ◌, ◌<ℤ◌, ◌≤ℤ◌, slice_get}
use Rattle.std.proofs.lemmas.Int.{ints}
use Rattle.std.proofs.lemmas.Option.{slice_get_within, get_or_from_slice_get}
use Rattle.std.proofs.Math.Nat.{suc-mul, zero-mul}
use Rattle.bq_builtin_strings.specs.Slice.{element_at, taken, AreElements}
use Rattle.bq_builtin_strings.proofs.NumberCases.{with_first}

-- a place of an element
abbrev pub Within : {A : Type 0} → List A → ℤ → Type 0
Within xs at = (pos 0 ≤ℤ at) × (at <ℤ pos (length xs))

pub there : {A : Type 0} (xs : List A) (k : ℕ) → k < length xs → (x : A) × (slice_get xs k ≡ Some x)
there [] k l = absurd (omega (arith, l))
there (x ∷ xs) zero l = (x, refl)
there (x ∷ xs) (suc k) l = there xs k (omega (arith, l))

within_some : {A : Type 0} (xs : List A) (at : ℤ) → Within xs at → (x : A) × (element_at xs at ≡ Some x)
within_some xs (pos k) h = there xs k (omega (arith, ints, h.1))
within_some xs (negsuc k) h = absurd (omega (arith, ints, h.0))

drop_found : {A : Type 0} (xs : List A) (i : ℕ) (x : A) → slice_get xs i ≡ Some x → drop i xs ≡ x ∷ drop (i + 1) xs
drop_found xs i x h = rw add-one (drop-cons xs i x (slice_get_within xs i x h) ∙ ap (λ y. y ∷ drop (suc i) xs) (get_or_from_slice_get xs i x x h))

-- of step 1 they stand side by side
pub taken_run : {A : Type 0} (xs : List A) (n i : ℕ) → i + n ≤ length xs → taken xs n (pos i) (pos 1) ≡ take n (drop i xs)
taken_run xs zero i l = refl
taken_run xs (suc n) i l =
    let t = there xs i (omega (arith, l)) in
    ap (λ o. with_first o (taken xs n (pos (i + 1)) (pos 1))) t.1
    ∙ (ap (λ ys. t.0 ∷ ys) (taken_run xs n (i + 1) (omega (arith, l))) ∙ ap (take (suc n)) (sym (drop_found xs i t.0 t.1)))

pub next_element : (at step : ℤ) (k : ℕ) → (at +ℤ step) +ℤ (pos k *ℤ step) ≡ at +ℤ (pos (suc k) *ℤ step)
next_element at (pos c) k =
    let e : suc k * c ≡ k * c + c = suc-mul k c in
    let is : (at +ℤ pos c) +ℤ pos (k * c) ≡ at +ℤ pos (suc k * c) = omega (arith, ints, e) in
    is
next_element at (negsuc c) k =
    let e : suc k * suc c ≡ k * suc c + suc c = suc-mul k (suc c) in
    let is : (at +ℤ negsuc c) +ℤ neg_ℤ (pos (k * suc c)) ≡ at +ℤ neg_ℤ (pos (suc k * suc c)) = omega (arith, ints, e) in
    is

pub first_element : (at step : ℤ) → at +ℤ (pos 0 *ℤ step) ≡ at
first_element at (pos c) = let e : 0 * c ≡ 0 = zero-mul c in let is : at +ℤ pos (0 * c) ≡ at = omega (arith, ints, e) in is
first_element at (negsuc c) = let e : 0 * suc c ≡ 0 = zero-mul (suc c) in let is : at +ℤ neg_ℤ (pos (0 * suc c)) ≡ at = omega (arith, ints, e) in is

-- one place more
pub taken_next : {A : Type 0} (xs : List A) (n : ℕ) (at step : ℤ) (x : A) → element_at xs at ≡ Some x → taken xs (suc n) at step ≡ x ∷ taken xs n (at +ℤ step) step
taken_next xs n at step x e = ap (λ o. with_first o (taken xs n (at +ℤ step) step)) e

next_each : {A : Type 0} (xs ys : List A) (n : ℕ) (at step : ℤ) (x : A) → element_at xs at ≡ Some x → AreElements xs n (at +ℤ step) step ys
    → (k : ℕ) → k < suc n → slice_get (x ∷ ys) k ≡ element_at xs (at +ℤ (pos k *ℤ step))
next_each xs ys n at step x e h zero l = sym (ap (element_at xs) (first_element at step) ∙ e)
next_each xs ys n at step x e h (suc k) l = h.each k (omega (arith, l)) ∙ ap (element_at xs) (next_element at step k)

pub taken_elements : {A : Type 0} (xs : List A) (n : ℕ) (at step : ℤ) → ((k : ℕ) → k < n → Within xs (at +ℤ (pos k *ℤ step))) → AreElements xs n at step (taken xs n at step)
taken_elements xs zero at step h = record { count = refl; each = λ k l. absurd (omega (arith, l)) }
taken_elements xs (suc n) at step h =
    let t = within_some xs at (subst (Within xs) (first_element at step) (h 0 (omega arith))) in
    let rest = taken_elements xs n (at +ℤ step) step (λ k l. subst (Within xs) (sym (next_element at step k)) (h (suc k) (omega (arith, l)))) in
    let shape = taken_next xs n at step t.0 t.1 in
    record {
      count = ap length shape ∙ ap suc rest.count;
      each = λ k l. ap (λ ys. slice_get ys k) shape ∙ next_each xs (taken xs n (at +ℤ step) step) n at step t.0 t.1 rest k l;
    }
