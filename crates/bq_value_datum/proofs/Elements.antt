-- A range has as many elements as steps lie before its end.
use Rattle.std.proofs.Common.{◌≡◌, ◌≢◌, ◌∙◌, ◌+◌, ◌-◌, ◌*◌, ◌/◌, ◌<◌, ◌≤◌, ℕ, zero, suc, ℤ, pos, negsuc, Bool, true, false, cond, refl, sym, ap, subst, arith}
use Rattle.std.specs.Prelude.{◌↔◌, ◌+ℤ◌, ◌-ℤ◌, ◌*ℤ◌, ◌<ℤ◌, ◌≤ℤ◌, int_lt, unsigned_abs}
use Rattle.std.proofs.lemmas.Int.{ints}
use Rattle.std.proofs.Math.Nat.{le-div_iff_mul-le}
use Rattle.std.proofs.Math.IntN.{neg_ℤ, pos-*ℤ-pos, pos-*ℤ-negsuc}
use Rattle.bq_value_datum.specs.Range.{IsBefore, range_element, steps_between, range_count}

-- the steps of that size, by what they sum to
steps_by : (low high : ℤ) (c k : ℕ) (t : Bool) → int_lt low high ≡ t → (k < cond t ((unsigned_abs (high -ℤ low) - 1) / suc c + 1) 0) ↔ ((low +ℤ pos (k * suc c)) <ℤ high)
steps_by low high c k true e =
    let m : ℕ = unsigned_abs (high -ℤ low) in
    let less : low <ℤ high = omega (arith, ints) in
    let more : 0 < m = omega (arith, ints, less) in
    let up : (k ≤ (m - 1) / suc c) ↔ (k * suc c ≤ m - 1) = le-div_iff_mul-le {k = suc c} {x = k} {y = m - 1} (omega arith) in (
      λ h. let fits : k * suc c ≤ m - 1 = up.0 (omega (arith, h)) in omega (arith, ints, less, more, fits),
      λ h. let fits : k * suc c ≤ m - 1 = omega (arith, ints, less, more, h) in let few : k ≤ (m - 1) / suc c = up.1 fits in omega (arith, few),
    )
steps_by low high c k false e = (λ h. absurd (omega (arith, h)), λ h. absurd (omega (arith, ints, h)))

yes_by : (a b : ℤ) (t : Bool) → a <ℤ b → int_lt a b ≡ t → t ≡ true
yes_by a b true h e = refl
yes_by a b false h e = absurd (omega (arith, ints))

no_by : (a b : ℤ) (t : Bool) → b ≤ℤ a → int_lt a b ≡ t → t ≡ false
no_by a b true h e = absurd (omega (arith, ints))
no_by a b false h e = refl

up_count : (a b : ℤ) (c : ℕ) → range_count a b (pos (suc c)) ≡ cond (int_lt a b) ((unsigned_abs (b -ℤ a) - 1) / suc c + 1) 0
unfolding range_count steps_between
up_count a b c =
    let yes : int_lt (pos 0) (pos (suc c)) ≡ true = yes_by (pos 0) (pos (suc c)) (int_lt (pos 0) (pos (suc c))) (omega (arith, ints)) refl in
    ap (λ (t : Bool). cond t (steps_between a b (pos (suc c))) (cond (int_lt (pos (suc c)) (pos 0)) (steps_between b a (pos (suc c))) 0)) yes

down_count : (a b : ℤ) (c : ℕ) → range_count a b (negsuc c) ≡ cond (int_lt b a) ((unsigned_abs (a -ℤ b) - 1) / suc c + 1) 0
unfolding range_count steps_between
down_count a b c =
    let no : int_lt (pos 0) (negsuc c) ≡ false = no_by (pos 0) (negsuc c) (int_lt (pos 0) (negsuc c)) (omega (arith, ints)) refl in
    let yes : int_lt (negsuc c) (pos 0) ≡ true = yes_by (negsuc c) (pos 0) (int_lt (negsuc c) (pos 0)) (omega (arith, ints)) refl in
    ap (λ (t : Bool). cond t (steps_between a b (negsuc c)) (cond (int_lt (negsuc c) (pos 0)) (steps_between b a (negsuc c)) 0)) no
    ∙ ap (λ (t : Bool). cond t (steps_between b a (negsuc c)) 0) yes

pub elements_counted : (a b step : ℤ) (k : ℕ) → step ≢ pos 0 → (k < range_count a b step) ↔ IsBefore (range_element a step k) b step
elements_counted a b (pos zero) k apart = absurd (apart refl)
elements_counted a b (pos (suc c)) k apart =
    let both = steps_by a b c k (int_lt a b) refl in
    let at : range_element a (pos (suc c)) k ≡ a +ℤ pos (k * suc c) = ap (λ z. a +ℤ z) (pos-*ℤ-pos k (suc c)) in (
      λ h. subst (λ z. z <ℤ b) (sym at) (both.0 (subst (λ n. k < n) (up_count a b c) h)),
      λ h. subst (λ n. k < n) (sym (up_count a b c)) (both.1 (subst (λ z. z <ℤ b) at h)),
    )
elements_counted a b (negsuc c) k apart =
    let both = steps_by b a c k (int_lt b a) refl in
    let at : range_element a (negsuc c) k ≡ a +ℤ neg_ℤ (pos (k * suc c)) = ap (λ z. a +ℤ z) (pos-*ℤ-negsuc k c) in (
      λ h. let far : (b +ℤ pos (k * suc c)) <ℤ a = both.0 (subst (λ n. k < n) (down_count a b c) h) in
          let here : b <ℤ (a +ℤ neg_ℤ (pos (k * suc c))) = omega (arith, ints, far) in
          subst (λ z. b <ℤ z) (sym at) here,
      λ h. let here : b <ℤ (a +ℤ neg_ℤ (pos (k * suc c))) = subst (λ z. b <ℤ z) at h in
          let far : (b +ℤ pos (k * suc c)) <ℤ a = omega (arith, ints, here) in
          subst (λ n. k < n) (sym (down_count a b c)) (both.1 far),
    )
