-- Numbers in a row that have 64 bits.
use Rattle.std.proofs.Common.{◌≡◌, refl, sym, ap, ℕ, zero, suc, ◌-◌, ◌^◌, ◌<◌, ◌≤◌, ℤ, pos, negsuc, Result, Ok, Err, FitsSigned, arith}
use Rattle.std.specs.Prelude.{◌+ℤ◌, ◌-ℤ◌, ◌≤ℤ◌, ◌<ℤ◌, unsigned_abs}
use Rattle.std.specs.Int.{w64}
use Rattle.std.proofs.lemmas.Int.{ints}
use Rattle.bq_base.specs.declared.fault.EvalFault.{EvalFault}
use Rattle.bq_base.specs.declared.fault.EvalFault.TheVariants.{Overflow}
use Rattle.bq_builtin_strings.proofs.Fits.{fitted_some, fitted_none}
use Rattle.bq_builtin_machine.specs.Answer.{and_then}
use Rattle.bq_builtin.specs.Sequences.{numbers_fit}

above_fits : (low z : ℤ) → FitsSigned w64 low → low ≤ℤ z → z <ℤ pos (2 ^ 63) → FitsSigned w64 z
above_fits low (pos n) f l h = record { sfits = omega (arith, ints, h) }
above_fits (pos m) (negsuc n) f l h = absurd (omega (arith, ints, l))
above_fits (negsuc m) (negsuc n) f l h = let small : m < 2 ^ 63 = f.sfits in record { sfits = omega (arith, ints, l, small) }

below_end : (z : ℤ) → FitsSigned w64 z → z <ℤ pos (2 ^ 63)
below_end (pos n) f = let small : n < 2 ^ 63 = f.sfits in omega (arith, ints, small)
below_end (negsuc n) f = omega (arith, ints)

last_fits : (start : ℤ) (n d : ℕ) → FitsSigned w64 start → d ≡ unsigned_abs (pos 9223372036854775807 -ℤ start) → n ≤ d → FitsSigned w64 (start +ℤ pos n)
last_fits start n d f e l = above_fits start (start +ℤ pos n) f (omega (arith, ints)) (omega (arith, ints, e, l, below_end start f))

last_is_too_great : (start : ℤ) (n d : ℕ) → FitsSigned w64 start → d ≡ unsigned_abs (pos 9223372036854775807 -ℤ start) → d < n → FitsSigned w64 (start +ℤ pos n) → ⊥
last_is_too_great start n d f e l g = omega (arith, ints, e, l, below_end start f, below_end (start +ℤ pos n) g)

pub numbers_are_fit : (start : ℤ) (count d : ℕ) → FitsSigned w64 start → d ≡ unsigned_abs (pos 9223372036854775807 -ℤ start) → count - 1 ≤ d → Ok (tt {0}) ≡ numbers_fit start count
numbers_are_fit start zero d f e l = refl
numbers_are_fit start (suc n) d f e l = sym (ap (λ (r : Result ℤ EvalFault). and_then r (λ last. Ok (tt {0}))) (fitted_some (start +ℤ pos n) (last_fits start n d f e (omega (arith, l)))))

pub numbers_are_not_fit : (start : ℤ) (count d : ℕ) → FitsSigned w64 start → d ≡ unsigned_abs (pos 9223372036854775807 -ℤ start) → d < count - 1 → Err Overflow ≡ numbers_fit start count
numbers_are_not_fit start zero d f e l = absurd (omega (arith, l))
numbers_are_not_fit start (suc n) d f e l = sym (ap (λ (r : Result ℤ EvalFault). and_then r (λ last. Ok (tt {0}))) (fitted_none (start +ℤ pos n) (last_is_too_great start n d f e (omega (arith, l)))))
