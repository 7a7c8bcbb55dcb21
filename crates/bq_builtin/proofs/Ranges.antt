-- What holds of the integers of a range.
use Rattle.std.proofs.Common.{◌≡◌, ◌∙◌, refl, sym, ap, ℕ, zero, suc, ◌<◌, ℤ, pos, Bool, true, false, not, cond, ◌&&◌, ◌||◌, ◌↔◌, arith}
use Rattle.std.specs.Prelude.{◌+ℤ◌, ◌≤ℤ◌, ◌<ℤ◌}
use Rattle.std.specs.Ordering.{int_eq, int_cmp, is_lt}
use Rattle.std.specs.Cmp.{signed_Decides}
use Rattle.std.specs.List.{list_all, list_any, best_of}
use Rattle.std.proofs.lemmas.Int.{ints}
use Rattle.bq_value.specs.Range.{range_element}
use Rattle.bq_builtin_machine.specs.Iteration.{integers}
use Rattle.bq_builtin_machine.proofs.Integers.{first_element, next_element}

abbrev pub isnt_zero : ℤ → Bool
isnt_zero z = not (int_eq z (pos 0))

zero_is : (z : ℤ) → pos 0 ≡ z → isnt_zero z ≡ false
zero_is z e = ap (λ (y : ℤ). not (int_eq y (pos 0))) (sym e)

isnt_by : (z : ℤ) (b : Bool) → int_eq z (pos 0) ≡ b → (z ≡ pos 0 → ⊥) → not b ≡ true
isnt_by z true e h = absurd (h ((signed_Decides z (pos 0)).0 e))
isnt_by z false e h = refl

zero_isnt : (z : ℤ) → (z ≡ pos 0 → ⊥) → isnt_zero z ≡ true
zero_isnt z h = isnt_by z (int_eq z (pos 0)) refl h

-- ---- all but 0

and_false : (b : Bool) → (b && false) ≡ false
and_false true = refl
and_false false = refl

or_true : (b : Bool) → (b || true) ≡ true
or_true true = refl
or_true false = refl

some_zero : (n : ℕ) (first step : ℤ) (k : ℕ) → k < n → pos 0 ≡ range_element first step k → list_all isnt_zero (integers first step n) ≡ false
some_zero zero first step k below e = absurd (omega (arith, below))
some_zero (suc n) first step zero below e = ap (λ (b : Bool). b && list_all isnt_zero (integers (first +ℤ step) step n)) (zero_is first (e ∙ first_element first step))
some_zero (suc n) first step (suc k) below e =
    ap (λ (b : Bool). isnt_zero first && b) (some_zero n (first +ℤ step) step k (omega (arith, below)) (e ∙ sym (next_element first step k))) ∙ and_false (isnt_zero first)

none_zero : (n : ℕ) (first step : ℤ) → ((k : ℕ) → k < n → pos 0 ≡ range_element first step k → ⊥) → list_all isnt_zero (integers first step n) ≡ true
none_zero zero first step h = refl
none_zero (suc n) first step h =
    ap (λ (b : Bool). b && list_all isnt_zero (integers (first +ℤ step) step n)) (zero_isnt first (λ e. h 0 (omega arith) (sym e ∙ sym (first_element first step))))
    ∙ none_zero n (first +ℤ step) step (λ k below e. h (suc k) (omega (arith, below)) (e ∙ next_element first step k))

pub all_but_zero : (has : Bool) (n : ℕ) (first step : ℤ) → (has ≡ true) ↔ ((k : ℕ) × (k < n) × (pos 0 ≡ range_element first step k)) → not has ≡ list_all isnt_zero (integers first step n)
all_but_zero true n first step h = let at = h.0 refl in sym (some_zero n first step at.0 at.1 at.2)
all_but_zero false n first step h = sym (none_zero n first step (λ k below e. absurd (false_isnt (h.1 (k, below, e)))))
  where
    false_isnt : false ≡ true → ⊥
    false_isnt e = absurd (cc)

-- ---- two integers of a range aren't both 0

second_isnt : (first step : ℤ) → (step ≡ pos 0 → ⊥) → first ≡ pos 0 → isnt_zero (first +ℤ step) ≡ true
second_isnt first step h e = zero_isnt (first +ℤ step) (λ f. h (omega (arith, ints, e, f)))

two_of : (first step : ℤ) (rest : Bool) (b : Bool) → int_eq first (pos 0) ≡ b → (step ≡ pos 0 → ⊥) → (not b || (isnt_zero (first +ℤ step) || rest)) ≡ true
two_of first step rest true e h = ap (λ (b : Bool). b || rest) (second_isnt first step h ((signed_Decides first (pos 0)).0 e))
two_of first step rest false e h = refl

abbrev pub any_of : ℕ → ℤ → Bool
any_of zero first = false
any_of (suc zero) first = isnt_zero first
any_of (suc (suc n)) first = true

or_none : (b : Bool) → (b || false) ≡ b
or_none true = refl
or_none false = refl

pub some_not_zero : (n : ℕ) (first step : ℤ) → (0 < n → step ≡ pos 0 → ⊥) → any_of n first ≡ list_any isnt_zero (integers first step n)
some_not_zero zero first step h = refl
some_not_zero (suc zero) first step h = sym (or_none (isnt_zero first))
some_not_zero (suc (suc n)) first step h = sym (two_of first step (list_any isnt_zero (integers (first +ℤ step +ℤ step) step n)) (int_eq first (pos 0)) refl (h (omega arith)))

-- ---- the greatest and the least are at the ends

abbrev pub better : (ℤ → ℤ → Bool) → ℤ → ℤ → ℤ
better beats b x = cond (beats x b) x b

-- each beats the one before it
last_best : (beats : ℤ → ℤ → Bool) (n : ℕ) (b step : ℤ) → ((z : ℤ) → beats (z +ℤ step) z ≡ true) → best_of beats b (integers (b +ℤ step) step n) ≡ range_element b step n
last_best beats zero b step h = sym (first_element b step)
last_best beats (suc n) b step h =
    ap (λ (c : Bool). best_of beats (cond c (b +ℤ step) b) (integers (b +ℤ step +ℤ step) step n)) (h b)
    ∙ (last_best beats n (b +ℤ step) step h ∙ next_element b step n)

lt_true : (a b : ℤ) → a <ℤ b → is_lt (int_cmp a b) ≡ true
lt_true a b h = grind (arith, ints)

lt_false : (a b : ℤ) → b ≤ℤ a → is_lt (int_cmp a b) ≡ false
lt_false a b h = grind (arith, ints)

abbrev pub greater : ℤ → ℤ → Bool
greater x y = is_lt (int_cmp y x)

abbrev pub smaller : ℤ → ℤ → Bool
smaller x y = is_lt (int_cmp x y)

pub greatest_up : (n : ℕ) (first step : ℤ) → pos 0 <ℤ step → best_of greater first (integers (first +ℤ step) step n) ≡ range_element first step n
greatest_up n first step h = last_best greater n first step (λ z. lt_true z (z +ℤ step) (omega (arith, ints, h)))

pub least_down : (n : ℕ) (first step : ℤ) → step <ℤ pos 0 → best_of smaller first (integers (first +ℤ step) step n) ≡ range_element first step n
least_down n first step h = last_best smaller n first step (λ z. lt_true (z +ℤ step) z (omega (arith, ints, h)))

-- none beats the first
stays_greatest : (n : ℕ) (b first step : ℤ) → first ≤ℤ b → step ≤ℤ pos 0 → best_of greater b (integers first step n) ≡ b
stays_greatest zero b first step l h = refl
stays_greatest (suc n) b first step l h =
    ap (λ (c : Bool). best_of greater (cond c first b) (integers (first +ℤ step) step n)) (lt_false b first l)
    ∙ stays_greatest n b (first +ℤ step) step (omega (arith, ints, l, h)) h

stays_least : (n : ℕ) (b first step : ℤ) → b ≤ℤ first → pos 0 ≤ℤ step → best_of smaller b (integers first step n) ≡ b
stays_least zero b first step l h = refl
stays_least (suc n) b first step l h =
    ap (λ (c : Bool). best_of smaller (cond c first b) (integers (first +ℤ step) step n)) (lt_false first b l)
    ∙ stays_least n b (first +ℤ step) step (omega (arith, ints, l, h)) h

pub greatest_down : (n : ℕ) (first step : ℤ) → step ≤ℤ pos 0 → best_of greater first (integers (first +ℤ step) step n) ≡ first
greatest_down n first step h = stays_greatest n first (first +ℤ step) step (omega (arith, ints, h)) h

pub least_up : (n : ℕ) (first step : ℤ) → pos 0 ≤ℤ step → best_of smaller first (integers (first +ℤ step) step n) ≡ first
least_up n first step h = stays_least n first (first +ℤ step) step (omega (arith, ints, h)) h
