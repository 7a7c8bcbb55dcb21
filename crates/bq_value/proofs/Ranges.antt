-- Ranges with the same elements, without the test that finds them.
use Rattle.std.proofs.Common.{◌≡◌, ◌∙◌, ◌⊎◌, inl, inr, ◌==◌, ◌&&◌, ◌||◌, ℕ, ℤ, Bool, true, false, refl, sym, ap}
use Rattle.std.specs.Ordering.{int_eq}
use Rattle.std.specs.Cmp.{signed_Decides, unsigned_Decides}
use Rattle.bq_value.specs.Range.{range_count, ranges_same}

pub both_true : (a b : Bool) → (a && b) ≡ true → (a ≡ true) × (b ≡ true)
both_true true b h = (refl, h)
both_true false b h = cc

either_true : (a b : Bool) → (a || b) ≡ true → (a ≡ true) ⊎ (b ≡ true)
either_true true b h = inl refl
either_true false b h = inr h

pub all_true : (a b : Bool) → a ≡ true → b ≡ true → (a && b) ≡ true
all_true a b h k = ap (λ c. c && b) h ∙ k

or_first : (a b : Bool) → a ≡ true → (a || b) ≡ true
or_first a b h = ap (λ c. c || b) h

or_second : (a b : Bool) → b ≡ true → (a || b) ≡ true
or_second true b h = refl
or_second false b h = h

pub nat_true : (a b : ℕ) → (a == b) ≡ true → a ≡ b
nat_true a b = (unsigned_Decides a b).0

pub nat_test : (a b : ℕ) → a ≡ b → (a == b) ≡ true
nat_test a b = (unsigned_Decides a b).1

pub int_true : (a b : ℤ) → int_eq a b ≡ true → a ≡ b
int_true a b = (signed_Decides a b).0

pub int_test : (a b : ℤ) → a ≡ b → int_eq a b ≡ true
int_test a b = (signed_Decides a b).1

-- as many elements, and where there are any the same first one, and where there are two the same step
abbrev pub AreRangesSame : ℤ → ℤ → ℤ → ℤ → ℤ → ℤ → Type 0
AreRangesSame a b c d e f = (range_count a b c ≡ range_count d e f) × ((range_count a b c ≡ 0) ⊎ ((a ≡ d) × ((range_count a b c ≡ 1) ⊎ (c ≡ f))))

same_steps : (n : ℕ) (c f : ℤ) → ((n == 1) ≡ true) ⊎ (int_eq c f ≡ true) → (n ≡ 1) ⊎ (c ≡ f)
same_steps n c f (inl h) = inl (nat_true n 1 h)
same_steps n c f (inr h) = inr (int_true c f h)

same_elements : (n : ℕ) (a c d f : ℤ) → ((n == 0) ≡ true) ⊎ ((int_eq a d && ((n == 1) || int_eq c f)) ≡ true) → (n ≡ 0) ⊎ ((a ≡ d) × ((n ≡ 1) ⊎ (c ≡ f)))
same_elements n a c d f (inl h) = inl (nat_true n 0 h)
same_elements n a c d f (inr h) =
    let p = both_true (int_eq a d) ((n == 1) || int_eq c f) h in
    inr (int_true a d p.0, same_steps n c f (either_true (n == 1) (int_eq c f) p.1))

pub ranges_from : (a b c d e f : ℤ) → ranges_same a b c d e f ≡ true → AreRangesSame a b c d e f
unfolding ranges_same
ranges_from a b c d e f h =
    let n : ℕ = range_count a b c in
    let p = both_true (n == range_count d e f) ((n == 0) || (int_eq a d && ((n == 1) || int_eq c f))) h in
    (nat_true n (range_count d e f) p.0, same_elements n a c d f (either_true (n == 0) (int_eq a d && ((n == 1) || int_eq c f)) p.1))

steps_test : (n : ℕ) (c f : ℤ) → (n ≡ 1) ⊎ (c ≡ f) → ((n == 1) || int_eq c f) ≡ true
steps_test n c f (inl h) = or_first (n == 1) (int_eq c f) (nat_test n 1 h)
steps_test n c f (inr h) = or_second (n == 1) (int_eq c f) (int_test c f h)

elements_test : (n : ℕ) (a c d f : ℤ) → (n ≡ 0) ⊎ ((a ≡ d) × ((n ≡ 1) ⊎ (c ≡ f))) → ((n == 0) || (int_eq a d && ((n == 1) || int_eq c f))) ≡ true
elements_test n a c d f (inl h) = or_first (n == 0) (int_eq a d && ((n == 1) || int_eq c f)) (nat_test n 0 h)
elements_test n a c d f (inr h) =
    or_second (n == 0) (int_eq a d && ((n == 1) || int_eq c f)) (all_true (int_eq a d) ((n == 1) || int_eq c f) (int_test a d h.0) (steps_test n c f h.1))

pub ranges_test : (a b c d e f : ℤ) → AreRangesSame a b c d e f → ranges_same a b c d e f ≡ true
unfolding ranges_same
ranges_test a b c d e f h =
    let n : ℕ = range_count a b c in
    all_true (n == range_count d e f) ((n == 0) || (int_eq a d && ((n == 1) || int_eq c f))) (nat_test n (range_count d e f) h.0) (elements_test n a c d f h.1)

-- each range has its own elements
pub ranges_itself : (a b c : ℤ) → ranges_same a b c a b c ≡ true
ranges_itself a b c = ranges_test a b c a b c (refl, inr (refl, inr refl))

elements_back : (n m : ℕ) (a c d f : ℤ) → n ≡ m → (n ≡ 0) ⊎ ((a ≡ d) × ((n ≡ 1) ⊎ (c ≡ f))) → (m ≡ 0) ⊎ ((d ≡ a) × ((m ≡ 1) ⊎ (f ≡ c)))
elements_back n m a c d f e (inl h) = inl (sym e ∙ h)
elements_back n m a c d f e (inr (h, inl k)) = inr (sym h, inl (sym e ∙ k))
elements_back n m a c d f e (inr (h, inr k)) = inr (sym h, inr (sym k))

pub ranges_back : (a b c d e f : ℤ) → AreRangesSame a b c d e f → AreRangesSame d e f a b c
ranges_back a b c d e f h = (sym h.0, elements_back (range_count a b c) (range_count d e f) a c d f h.0 h.1)

elements_on : (n m : ℕ) (a c d f g i : ℤ) → n ≡ m → (n ≡ 0) ⊎ ((a ≡ d) × ((n ≡ 1) ⊎ (c ≡ f))) → (m ≡ 0) ⊎ ((d ≡ g) × ((m ≡ 1) ⊎ (f ≡ i))) → (n ≡ 0) ⊎ ((a ≡ g) × ((n ≡ 1) ⊎ (c ≡ i)))
elements_on n m a c d f g i e (inl h) k = inl h
elements_on n m a c d f g i e (inr h) (inl k) = inl (e ∙ k)
elements_on n m a c d f g i e (inr (h, inl s)) (inr (k, t)) = inr (h ∙ k, inl s)
elements_on n m a c d f g i e (inr (h, inr s)) (inr (k, inl t)) = inr (h ∙ k, inl (e ∙ t))
elements_on n m a c d f g i e (inr (h, inr s)) (inr (k, inr t)) = inr (h ∙ k, inr (s ∙ t))

pub ranges_on : (a b c d e f g h i : ℤ) → AreRangesSame a b c d e f → AreRangesSame d e f g h i → AreRangesSame a b c g h i
ranges_on a b c d e f g h i p q = (p.0 ∙ q.0, elements_on (range_count a b c) (range_count d e f) a c d f g i p.0 p.1 q.1)
