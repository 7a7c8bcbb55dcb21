-- What is left of a sum and a product in 64 bits.
use Rattle.std.proofs.Common.{◌≡◌, ◌∙◌, ◌+◌, ◌*◌, ◌%◌, ◌<◌, ◌^◌, ℕ, ℤ, pos, sym, ap, arith, FitsSigned, w64, to_z, of_z}
use Rattle.std.specs.Prelude.{negsuc, ◌+ℤ◌, ◌*ℤ◌}
use Rattle.std.specs.Int.{cast_signed, int_wrap}
use Rattle.std.proofs.lemmas.Int.{to_z-of_z, of_z-to_z, int_wrap_fits, int_wrap-mul_left, int_wrap-add_right, wrapping_mul_onto, wrapping_add-bits}
use Rattle.std.proofs.lemmas.Nat.{mod_below}
use Rattle.std.proofs.Math.Nat.{mod-eq_of_lt}

of_count : (n : ℕ) → n < 2 ^ 64 → cast_signed w64 n ≡ int_wrap w64 (pos n)
unfolding int_wrap
of_count n l = sym (ap (λ (k : ℕ). cast_signed w64 k) (mod-eq_of_lt {n = n} {m = 2 ^ 64} l))

-- the bits of a product
product_bits : (step : ℤ) (n : ℕ) → FitsSigned w64 step → n < 2 ^ 64 → cast_signed w64 ((n * of_z w64 step) % 2 ^ 64) ≡ int_wrap w64 (pos n *ℤ step)
product_bits step n g l =
    wrapping_mul_onto w64 n step l g
    ∙ (ap (λ (z : ℤ). int_wrap w64 (z *ℤ step)) (of_count n l) ∙ int_wrap-mul_left w64 (pos n) step)

bits_below : (z : ℤ) → FitsSigned w64 z → of_z w64 z < 2 ^ 64
bits_below (pos n) f = let small : n < 2 ^ 63 = f.sfits in omega (arith, small)
bits_below (negsuc n) f = omega arith

pub stepped : (start step : ℤ) (n : ℕ) (r : ℤ) → FitsSigned w64 start → FitsSigned w64 step → n < 2 ^ 64 → r ≡ cast_signed w64 n → FitsSigned w64 (start +ℤ (pos n *ℤ step))
    → to_z w64 ((of_z w64 start + (of_z w64 r * of_z w64 step) % 2 ^ 64) % 2 ^ 64) ≡ start +ℤ (pos n *ℤ step)
stepped start step n r f g l e h =
    let bits : of_z w64 r ≡ n = ap (of_z w64) e ∙ of_z-to_z w64 n l in
    let P : ℕ = (n * of_z w64 step) % 2 ^ 64 in
    let small : P < 2 ^ 64 = mod_below (n * of_z w64 step) (2 ^ 64) (omega arith) in
    ap (λ (k : ℕ). to_z w64 ((of_z w64 start + (k * of_z w64 step) % 2 ^ 64) % 2 ^ 64)) bits
    ∙ (wrapping_add-bits w64 (of_z w64 start) P (bits_below start f) small
    ∙ (ap (λ (z : ℤ). int_wrap w64 (z +ℤ cast_signed w64 P)) (to_z-of_z w64 start f)
    ∙ (ap (λ (z : ℤ). int_wrap w64 (start +ℤ z)) (product_bits step n g l)
    ∙ (int_wrap-add_right w64 start (pos n *ℤ step) ∙ int_wrap_fits w64 (start +ℤ (pos n *ℤ step)) h))))
