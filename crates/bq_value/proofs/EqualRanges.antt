-- Ranges are equal where they have the same elements, and functions where they come from one `def`.
use Rattle.std.proofs.Common.{◌≡◌, ◌∙◌, ◌⊎◌, inl, inr, ◌*◌, ◌<◌, ◌==◌, ◌&&◌, ℕ, zero, suc, ℤ, pos, negsuc, Bool, true, List, Ok, refl, sym, ap, arith}
use Rattle.std.specs.Prelude.{◌↔◌, ◌+ℤ◌, ◌*ℤ◌}
use Rattle.std.proofs.Math.IntN.{neg_ℤ, zero-*ℤ, pos-*ℤ-pos, pos-*ℤ-negsuc, +ℤ_idl, +ℤ_idr, +ℤ_assoc, +ℤ_invl}
use Rattle.bq_value.specs.Datum.{Data, range, function}
use Rattle.bq_value.specs.Range.{range_count, range_element, ranges_same}
use Rattle.bq_value.specs.Cells.{StoreView}
use Rattle.bq_value.specs.Equality.{equal_at}
use Rattle.bq_value.specs.WalkLaws.{Equals, HaveSameElements}
use Rattle.bq_value.proofs.Ranges.{both_true, all_true, nat_true, nat_test, ranges_from, ranges_test}
use Rattle.bq_value.proofs.Alike.{answer_of}

first_element : (a c : ℤ) → range_element a c 0 ≡ a
first_element a c = ap (λ z. a +ℤ z) (zero-*ℤ c) ∙ +ℤ_idr a

one_time : (c : ℤ) → pos 1 *ℤ c ≡ c
one_time (pos n) = let e : 1 * n ≡ n = omega arith in pos-*ℤ-pos 1 n ∙ ap pos e
one_time (negsuc n) = let e : 1 * suc n ≡ suc n = omega arith in pos-*ℤ-negsuc 1 n ∙ ap (λ (k : ℕ). neg_ℤ (pos k)) e

second_element : (a c : ℤ) → range_element a c 1 ≡ a +ℤ c
second_element a c = ap (λ z. a +ℤ z) (one_time c)

taken_off : (a c : ℤ) → neg_ℤ a +ℤ (a +ℤ c) ≡ c
taken_off a c = sym (+ℤ_assoc (neg_ℤ a) a c) ∙ (ap (λ z. z +ℤ c) (+ℤ_invl a) ∙ +ℤ_idl c)

one_step : (a c f : ℤ) → a +ℤ c ≡ a +ℤ f → c ≡ f
one_step a c f e = sym (taken_off a c) ∙ (ap (λ z. neg_ℤ a +ℤ z) e ∙ taken_off a f)

elements_of : (n : ℕ) (a c d f : ℤ) → (n ≡ 0) ⊎ ((a ≡ d) × ((n ≡ 1) ⊎ (c ≡ f))) → (k : ℕ) → k < n → range_element a c k ≡ range_element d f k
elements_of n a c d f (inl z) k h = absurd (omega (arith, z, h))
elements_of n a c d f (inr (p, inl z)) k h =
    let e : k ≡ 0 = omega (arith, z, h) in
    ap (range_element a c) e ∙ (first_element a c ∙ (p ∙ (sym (first_element d f) ∙ ap (range_element d f) (sym e))))
elements_of n a c d f (inr (p, inr q)) k h = λ i. range_element (p i) (q i) k

tests_of : (n : ℕ) (a c d f : ℤ) → ((k : ℕ) → k < n → range_element a c k ≡ range_element d f k) → (n ≡ 0) ⊎ ((a ≡ d) × ((n ≡ 1) ⊎ (c ≡ f)))
tests_of zero a c d f h = inl refl
tests_of (suc zero) a c d f h = inr (sym (first_element a c) ∙ (h 0 (omega arith) ∙ first_element d f), inl refl)
tests_of (suc (suc n)) a c d f h =
    let p : a ≡ d = sym (first_element a c) ∙ (h 0 (omega arith) ∙ first_element d f) in
    let q : a +ℤ c ≡ a +ℤ f = sym (second_element a c) ∙ (h 1 (omega arith) ∙ (second_element d f ∙ ap (λ z. z +ℤ f) (sym p))) in
    inr (p, inr (one_step a c f q))

range_answer : (l : ℕ) (s : StoreView) (a b c d e f : ℤ) (so : Bool) (n m : ℕ) → equal_at (suc l) s n (range a b c) (range d e f) ≡ Ok (so, m) → ranges_same a b c d e f ≡ so
range_answer l s a b c d e f so zero m is = absurd (cc)
range_answer l s a b c d e f so (suc n) m is = answer_of (ranges_same a b c d e f) so n m is

pub ranges_by_elements : (s : StoreView) (a b c d e f : ℤ) (so : Bool) → Equals s (range a b c) (range d e f) so → (so ≡ true) ↔ HaveSameElements a b c d e f
ranges_by_elements s a b c d e f so h =
    let t : ranges_same a b c d e f ≡ so = range_answer 63 s a b c d e f so h.steps h.left h.is in (
      λ y. let r = ranges_from a b c d e f (t ∙ y) in (r.0, elements_of (range_count a b c) a c d f r.1),
      λ r. sym t ∙ ranges_test a b c d e f (r.0, tests_of (range_count a b c) a c d f r.1),
    )

function_answer : (l : ℕ) (s : StoreView) (a i b j : ℕ) (t u : List ℕ) (vs ws : Data) (so : Bool) (n m : ℕ) → equal_at (suc l) s n (function a i t vs) (function b j u ws) ≡ Ok (so, m) → ((a == b) && (i == j)) ≡ so
function_answer l s a i b j t u vs ws so zero m is = absurd (cc)
function_answer l s a i b j t u vs ws so (suc n) m is = answer_of ((a == b) && (i == j)) so n m is

pub functions_by_def : (s : StoreView) (a i b j : ℕ) (t u : List ℕ) (vs ws : Data) (so : Bool) → Equals s (function a i t vs) (function b j u ws) so → (so ≡ true) ↔ ((a ≡ b) × (i ≡ j))
functions_by_def s a i b j t u vs ws so h =
    let e : ((a == b) && (i == j)) ≡ so = function_answer 63 s a i b j t u vs ws so h.steps h.left h.is in (
      λ y. let r = both_true (a == b) (i == j) (e ∙ y) in (nat_true a b r.0, nat_true i j r.1),
      λ r. sym e ∙ all_true (a == b) (i == j) (nat_test a b r.0) (nat_test i j r.1),
    )
