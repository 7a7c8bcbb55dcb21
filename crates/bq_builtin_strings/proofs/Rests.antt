-- What a quotient leaves.
use Rattle.std.proofs.Common.{◌≡◌, ◌≢◌, ◌+◌, ◌-◌, ◌*◌, ◌/◌, ◌%◌, ◌<◌, ◌≤◌, ℕ, zero, suc, ℤ, refl, ap, ◌∙◌, arith}
use native.Mathlib.Nat.{zero-mul, suc-mul}
use Rattle.std.proofs.lemmas.Int.{ints}
use Rattle.std.specs.Prelude.{pos, negsuc, neg_ℤ, ◌+ℤ◌, ◌*ℤ◌}
use Rattle.std.proofs.lemmas.Nat.{div-add-mod', mod_below}
use Rattle.bq_builtin_strings.specs.Division.{floor_quotient, floor_rest, IsRestOf}

up_back : (s t : ℕ) → t ≤ s → pos s +ℤ neg_ℤ (pos t) ≡ pos (s - t)
up_back s t l = omega (arith, ints, l)

down_up : (s t a : ℕ) → s ≡ t + suc a → neg_ℤ (pos s) +ℤ pos t ≡ negsuc a
down_up s t a e = omega (arith, ints, e)

down_down : (s t a : ℕ) → s + t ≡ suc a → neg_ℤ (pos s) +ℤ neg_ℤ (pos t) ≡ negsuc a
down_down s t a e = omega (arith, ints, e)

pub whole : (x y : ℤ) → (y ≢ pos 0) → (floor_quotient x y *ℤ y) +ℤ floor_rest x y ≡ x
whole x (pos zero) n = absurd (n refl)
whole (pos a) (pos (suc b)) n = ap pos (div-add-mod' a (suc b))
whole (pos zero) (negsuc b) n = ap (λ (k : ℕ). neg_ℤ (pos k) +ℤ pos 0) (zero-mul (suc b))
whole (pos (suc a)) (negsuc b) n =
    let low : a % suc b < suc b = mod_below a (suc b) (omega arith) in
    let more : suc (a / suc b) * suc b ≡ a / suc b * suc b + suc b = suc-mul (a / suc b) (suc b) in
    let all : a / suc b * suc b + a % suc b ≡ a = div-add-mod' a (suc b) in
    up_back (suc (a / suc b) * suc b) (b - a % suc b) (omega (arith, more, low)) ∙ ap pos (omega (arith, more, all, low))
whole (negsuc a) (pos (suc b)) n =
    let low : a % suc b < suc b = mod_below a (suc b) (omega arith) in
    let more : suc (a / suc b) * suc b ≡ a / suc b * suc b + suc b = suc-mul (a / suc b) (suc b) in
    let all : a / suc b * suc b + a % suc b ≡ a = div-add-mod' a (suc b) in
    down_up (suc (a / suc b) * suc b) (suc b - 1 - a % suc b) a (omega (arith, more, all, low))
whole (negsuc a) (negsuc b) n = down_down (suc a / suc b * suc b) (suc a % suc b) a (div-add-mod' (suc a) (suc b))

rest_below : (b r : ℕ) → r < suc b → IsRestOf (negsuc b) (neg_ℤ (pos r))
rest_below b zero l = refl
rest_below b (suc r) l = omega (arith, l)

pub between : (x y : ℤ) → (y ≢ pos 0) → IsRestOf y (floor_rest x y)
between x (pos zero) n = absurd (n refl)
between (pos a) (pos (suc b)) n = mod_below a (suc b) (omega arith)
between (pos zero) (negsuc b) n = refl
between (pos (suc a)) (negsuc b) n = rest_below b (b - a % suc b) (omega arith)
between (negsuc a) (pos (suc b)) n = omega arith
between (negsuc a) (negsuc b) n = rest_below b (suc a % suc b) (mod_below (suc a) (suc b) (omega arith))
