-- Shifts as products and quotients by powers of two.
use Rattle.std.proofs.Common.{◌≡◌, ◌≢◌, ◌*◌, ◌%◌, ◌^◌, ◌<◌, ◌≤◌, ℕ, zero, suc, ℤ, pos, Ok, Err, refl, sym, ap, ◌∙◌, arith, FitsSigned, w64, to_z}
use Rattle.std.proofs.lemmas.Int.{to_z_pos}
use Rattle.std.proofs.lemmas.Nat.{one_shl, pow_below}
use Rattle.std.specs.Prelude.{negsuc, neg_ℤ, ◌*ℤ◌}
use Rattle.std.specs.Int.{int_shr}
use lib.Signed.{mag}
use Rattle.bq_base.specs.declared.fault.EvalFault.TheVariants.{Overflow}
use Rattle.bq_builtin_strings.specs.Integer.{fitted}
use Rattle.bq_builtin_strings.specs.Shift.{scaled, halved}
use Rattle.bq_builtin_strings.proofs.Fits.{fitted_none}

pub shr_is : (x : ℤ) (n : ℕ) → int_shr x n ≡ halved x n
unfolding halved
shr_is (pos a) n = refl
shr_is (negsuc a) n = refl

-- `1 << n` at 64 bits
pub one_up : (n : ℕ) → n < 63 → to_z w64 ((1 * 2 ^ n) % 2 ^ 64) ≡ pos (2 ^ n)
one_up n l = ap (to_z w64) (one_shl n 64 (omega (arith, l))) ∙ to_z_pos w64 (2 ^ n) (pow_below n 63 l)

pub scaled_is : (x : ℤ) (n : ℕ) → fitted (x *ℤ pos (2 ^ n)) ≡ scaled x n
unfolding scaled
scaled_is x n = refl

-- by 2^63
pub most_zero : (x : ℤ) → x ≡ pos 0 → Ok (pos 0) ≡ scaled x 63
unfolding scaled fitted
most_zero x f = rw f refl

pub most_minus : (x : ℤ) → x ≡ negsuc 0 → Ok (negsuc 9223372036854775807) ≡ scaled x 63
unfolding scaled fitted
most_minus x f = rw f refl

within_neg : (n k : ℕ) → mag (neg_ℤ (pos n)) < k → n ≤ k
within_neg zero k l = omega arith
within_neg (suc n) k l = omega (arith, l)

too_far : (x : ℤ) → (x ≢ pos 0) → (x ≢ negsuc 0) → FitsSigned w64 (x *ℤ pos (2 ^ 63)) → ⊥
too_far (pos zero) n m f = n refl
too_far (pos (suc a)) n m f = let g : suc a * 9223372036854775808 < 9223372036854775808 = f.sfits in omega (arith, g)
too_far (negsuc zero) n m f = m refl
too_far (negsuc (suc a)) n m f =
    let g : suc (suc a) * 9223372036854775808 ≤ 9223372036854775808 = within_neg (suc (suc a) * 9223372036854775808) 9223372036854775808 f.sfits in
    omega (arith, g)

pub most_none : (x : ℤ) → (x ≢ pos 0) → (x ≢ negsuc 0) → Err Overflow ≡ scaled x 63
unfolding scaled
most_none x p q = sym (fitted_none (x *ℤ pos (2 ^ 63)) (too_far x p q))
