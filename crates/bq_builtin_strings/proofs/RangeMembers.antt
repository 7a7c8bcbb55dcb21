-- Which integers are in a range.
use Rattle.std.proofs.Common.{◌≡◌, ◌≢◌, ◌∙◌, ◌+◌, ◌*◌, ◌/◌, ◌%◌, ℕ, zero, suc, ℤ, pos, Bool, true, false, refl, sym, ap, subst, arith}
use Rattle.std.specs.Prelude.{negsuc, neg_ℤ, ◌↔◌, ◌&&◌, ◌==◌, ◌+ℤ◌, ◌-ℤ◌, ◌<ℤ◌, ◌≤ℤ◌, int_lt, int_le, unsigned_abs}
use Rattle.std.specs.Cmp.{unsigned_Decides}
use Rattle.std.proofs.lemmas.Int.{ints}
use Rattle.std.proofs.lemmas.Nat.{div-add-mod'}
use Rattle.std.proofs.Math.Nat.{mul-mod_left}
use Rattle.bq_value.proofs.Elements.{elements_counted}
use Rattle.bq_builtin_strings.specs.RangeItem.{is_between, range_has, IsElement}
use Rattle.bq_builtin_strings.proofs.Bounds.{lt_true, lt_false, le_true, has_by}

both : (a b : Bool) → (a && b) ≡ true → (a ≡ true) × (b ≡ true)
both true b h = (refl, h)
both false b h = absurd (cc)

and_both : {a b : Bool} → a ≡ true → b ≡ true → (a && b) ≡ true
and_both {a} {b} h k = ap (λ c. c && b) h ∙ k

lt_by : (a b : ℤ) → int_lt a b ≡ true → a <ℤ b
lt_by a b h = grind (arith, ints)

le_by : (a b : ℤ) → int_le a b ≡ true → a ≤ℤ b
le_by a b h = grind (arith, ints)

-- going up
up_between : (start stop n : ℤ) (c : ℕ) → is_between start stop (pos (suc c)) n ≡ (int_le start n && int_lt n stop)
up_between start stop n c = rw (lt_false (pos (suc c)) (pos 0) (omega (arith, ints))) refl

whole : (d c : ℕ) → (d % suc c == 0) ≡ true → d ≡ d / suc c * suc c
whole d c h =
    let none : d % suc c ≡ 0 = (unsigned_Decides (d % suc c) 0).0 h in
    let all : d / suc c * suc c + d % suc c ≡ d = div-add-mod' d (suc c) in
    omega (arith, none, all)

no_rest : (k c : ℕ) → (k * suc c % suc c == 0) ≡ true
no_rest k c = (unsigned_Decides (k * suc c % suc c) 0).1 (mul-mod_left k (suc c))

up_element : (start stop n : ℤ) (c : ℕ) → (range_has start stop (pos (suc c)) n ≡ true) ↔ IsElement start stop (pos (suc c)) n
up_element start stop n c = (
  λ h.
      let parts = both _ _ (sym (has_by start stop (pos (suc c)) n (λ e. cc)) ∙ h) in
      let ends = both _ _ (sym (up_between start stop n c) ∙ parts.0) in
      let low : start ≤ℤ n = le_by start n ends.0 in
      let high : n <ℤ stop = lt_by n stop ends.1 in
      let d : ℕ = unsigned_abs (n -ℤ start) in
      let k : ℕ = d / suc c in
      let e : d ≡ k * suc c = whole d c parts.1 in
      let at : n ≡ start +ℤ pos (k * suc c) = omega (arith, ints, low, e) in
      (k, (elements_counted start stop (pos (suc c)) k (λ f. cc)).1 (subst (λ z. z <ℤ stop) at high), at),
  λ h.
      let k : ℕ = h.0 in
      let before : (start +ℤ pos (k * suc c)) <ℤ stop = (elements_counted start stop (pos (suc c)) k (λ f. cc)).0 h.1 in
      let at : n ≡ start +ℤ pos (k * suc c) = h.2 in
      let low : start ≤ℤ n = omega (arith, ints, at) in
      let high : n <ℤ stop = omega (arith, ints, at, before) in
      let far : unsigned_abs (n -ℤ start) ≡ k * suc c = omega (arith, ints, at) in
      has_by start stop (pos (suc c)) n (λ f. cc)
      ∙ and_both (up_between start stop n c ∙ and_both (le_true start n low) (lt_true n stop high)) (ap (λ (d : ℕ). d % suc c == 0) far ∙ no_rest k c),
)

-- going down
down_element : (start stop n : ℤ) (c : ℕ) → (range_has start stop (negsuc c) n ≡ true) ↔ IsElement start stop (negsuc c) n
down_element start stop n c = (
  λ h.
      let parts = both _ _ (sym (has_by start stop (negsuc c) n (λ e. cc)) ∙ h) in
      let ends = both (int_lt stop n) (int_le n start) parts.0 in
      let low : stop <ℤ n = lt_by stop n ends.0 in
      let high : n ≤ℤ start = le_by n start ends.1 in
      let d : ℕ = unsigned_abs (n -ℤ start) in
      let k : ℕ = d / suc c in
      let e : d ≡ k * suc c = whole d c parts.1 in
      let at : n ≡ start +ℤ neg_ℤ (pos (k * suc c)) = omega (arith, ints, high, e) in
      (k, (elements_counted start stop (negsuc c) k (λ f. cc)).1 (subst (λ z. stop <ℤ z) at low), at),
  λ h.
      let k : ℕ = h.0 in
      let after : stop <ℤ (start +ℤ neg_ℤ (pos (k * suc c))) = (elements_counted start stop (negsuc c) k (λ f. cc)).0 h.1 in
      let at : n ≡ start +ℤ neg_ℤ (pos (k * suc c)) = h.2 in
      let low : stop <ℤ n = omega (arith, ints, at, after) in
      let high : n ≤ℤ start = omega (arith, ints, at) in
      let far : unsigned_abs (n -ℤ start) ≡ k * suc c = omega (arith, ints, at) in
      has_by start stop (negsuc c) n (λ f. cc)
      ∙ and_both (and_both (lt_true stop n low) (le_true n start high)) (ap (λ (d : ℕ). d % suc c == 0) far ∙ no_rest k c),
)

pub has_elements : (start stop step n : ℤ) → (step ≢ pos 0) → (range_has start stop step n ≡ true) ↔ IsElement start stop step n
has_elements start stop (pos zero) n apart = absurd (apart refl)
has_elements start stop (pos (suc c)) n apart = up_element start stop n c
has_elements start stop (negsuc c) n apart = down_element start stop n c
