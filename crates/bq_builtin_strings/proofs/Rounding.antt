-- Division by the signs of what is divided.
use Rattle.std.proofs.Common.{◌≡◌, ◌-◌, ◌/◌, ◌%◌, ◌^◌, ◌<◌, ℕ, zero, suc, ℤ, Option, Some, None, Ok, Err, refl, sym, ap, ◌∙◌, arith}
use native.Mathlib.Nat.{zero-div, zero-mod}
use Rattle.std.proofs.lemmas.Int.{ints}
use Rattle.std.proofs.lemmas.Nat.{mod_below}
use Rattle.std.specs.Prelude.{pos, negsuc, neg_ℤ, ◌<ℤ◌, ◌≤ℤ◌, ◌+ℤ◌, ◌-ℤ◌, FitsSigned, SomeIff}
use Rattle.std.specs.Int.{w64, CanDivide, int_div_euclid, int_rem_euclid}
use Rattle.std.specs.Int.RustNames.{int_div, int_rem}
use Rattle.bq_base.specs.declared.fault.EvalFault.TheVariants.{DivZero}
use Rattle.bq_builtin_strings.specs.Integer.{fitted, Fitted}
use Rattle.bq_builtin_strings.specs.Division.{floor_quotient, divided, remainder}
use Rattle.bq_builtin_strings.proofs.Fits.{fitted_some}

-- by 0
pub no_quotient : (x y : ℤ) → y ≡ pos 0 → Err DivZero ≡ divided x y
unfolding divided
no_quotient x y e = rw e refl

pub no_rest : (x y : ℤ) → y ≡ pos 0 → Err DivZero ≡ remainder x y
unfolding remainder
no_rest x y e = rw e refl

-- by a positive divisor
pub up_quotient : (x y q : ℤ) → pos 0 <ℤ y → q ≡ int_div_euclid x y → FitsSigned w64 q → Ok q ≡ divided x y
unfolding divided
up_quotient x (pos zero) q l e f = absurd l.lt
up_quotient (pos a) (pos (suc b)) q l e f = sym (ap fitted (sym e) ∙ fitted_some q f)
up_quotient (negsuc a) (pos (suc b)) q l e f = sym (ap fitted (sym e) ∙ fitted_some q f)
up_quotient x (negsuc b) q l e f = absurd l.lt

pub up_rest : (x y r : ℤ) → pos 0 <ℤ y → r ≡ int_rem_euclid x y → Ok r ≡ remainder x y
unfolding remainder
up_rest x (pos zero) r l e = absurd l.lt
up_rest (pos a) (pos (suc b)) r l e = ap Ok e
up_rest (negsuc a) (pos (suc b)) r l e = ap Ok e
up_rest x (negsuc b) r l e = absurd l.lt

less_one : (a : ℕ) (z : ℤ) → z ≡ pos (suc a) -ℤ pos 1 → z ≡ pos a
less_one a z e = e ∙ omega (arith, ints)

one_below : (n : ℕ) (q r : ℤ) → q ≡ neg_ℤ (pos n) → r ≡ q -ℤ pos 1 → r ≡ negsuc n
one_below zero q r e f = f ∙ ap (λ (z : ℤ). z -ℤ pos 1) e
one_below (suc n) q r e f = f ∙ (ap (λ (z : ℤ). z -ℤ pos 1) e ∙ omega (arith, ints))

back : (m b : ℕ) (s r : ℤ) → m < suc b → s ≡ pos m → r ≡ s +ℤ negsuc b +ℤ pos 1 → r ≡ neg_ℤ (pos (b - m))
back m b s r l e f = f ∙ (ap (λ (z : ℤ). z +ℤ negsuc b +ℤ pos 1) e ∙ omega (arith, ints, l))

-- a positive number by a negative divisor, from the quotient and the rest of the number before it
pub down_quotient : (x y z q r : ℤ) → q ≡ int_div_euclid z y → z ≡ x -ℤ pos 1 → r ≡ q -ℤ pos 1 → pos 0 <ℤ x → y <ℤ pos 0 → FitsSigned w64 r → Ok r ≡ divided x y
unfolding divided
down_quotient x (pos b) z q r e p d l m f = absurd (omega (arith, ints, m))
down_quotient (pos zero) (negsuc b) z q r e p d l m f = absurd l.lt
down_quotient (pos (suc a)) (negsuc b) z q r e p d l m f =
    let is : r ≡ negsuc (a / suc b) = one_below (a / suc b) q r (e ∙ ap (λ (w : ℤ). int_div_euclid w (negsuc b)) (less_one a z p)) d in
    sym (ap fitted (sym is) ∙ fitted_some r f)
down_quotient (negsuc a) (negsuc b) z q r e p d l m f = absurd l.lt

pub down_rest : (x y z s r : ℤ) → s ≡ int_rem_euclid z y → z ≡ x -ℤ pos 1 → r ≡ s +ℤ y +ℤ pos 1 → pos 0 <ℤ x → y <ℤ pos 0 → Ok r ≡ remainder x y
unfolding remainder
down_rest x (pos b) z s r e p d l m = absurd (omega (arith, ints, m))
down_rest (pos zero) (negsuc b) z s r e p d l m = absurd l.lt
down_rest (pos (suc a)) (negsuc b) z s r e p d l m =
    ap Ok (back (a % suc b) b s r (mod_below a (suc b) (omega arith)) (e ∙ ap (λ (w : ℤ). int_rem_euclid w (negsuc b)) (less_one a z p)) d)
down_rest (negsuc a) (negsuc b) z s r e p d l m = absurd l.lt

-- another number by a negative divisor
toward_zero : (x y : ℤ) → x ≤ℤ pos 0 → y <ℤ pos 0 → int_div x y ≡ floor_quotient x y
toward_zero x (pos b) l m = absurd (omega (arith, ints, m))
toward_zero (pos zero) (negsuc b) l m = ap (λ (n : ℕ). neg_ℤ (pos n)) (zero-div (suc b))
toward_zero (pos (suc a)) (negsuc b) l m = absurd (omega (arith, ints, l))
toward_zero (negsuc a) (negsuc b) l m = refl

quotient_fitted : (x y z : ℤ) (answer : Option ℤ) → FitsSigned w64 y → y <ℤ pos 0 → SomeIff answer (CanDivide w64 x y) (int_div x y) → int_div x y ≡ z → Fitted answer z
quotient_fitted x (pos b) z answer r m h e = absurd (omega (arith, ints, m))
quotient_fitted x (negsuc b) z None r m h e = λ f. let small : b < 2 ^ 63 = r.sfits in h ((omega (arith, small)), rw e f)
quotient_fitted x (negsuc b) z (Some v) r m h e = (rw (← e) h.0.1, h.1 ∙ e)

divided_is : (x y : ℤ) → y <ℤ pos 0 → fitted (floor_quotient x y) ≡ divided x y
unfolding divided
divided_is x (pos b) m = absurd (omega (arith, ints, m))
divided_is x (negsuc b) m = refl

pub back_quotient : (x y : ℤ) (answer : Option ℤ) → FitsSigned w64 y → x ≤ℤ pos 0 → y <ℤ pos 0 → SomeIff answer (CanDivide w64 x y) (int_div x y)
    → Fitted answer (floor_quotient x y) × (fitted (floor_quotient x y) ≡ divided x y)
back_quotient x y answer r l m h = (quotient_fitted x y (floor_quotient x y) answer r m h (toward_zero x y l m), divided_is x y m)

pub back_rest : (x y r : ℤ) → x ≤ℤ pos 0 → y <ℤ pos 0 → r ≡ int_rem x y → Ok r ≡ remainder x y
unfolding remainder
back_rest x (pos b) r l m e = absurd (omega (arith, ints, m))
back_rest (pos zero) (negsuc b) r l m e = ap Ok (e ∙ ap pos (zero-mod (suc b)))
back_rest (pos (suc a)) (negsuc b) r l m e = absurd (omega (arith, ints, l))
back_rest (negsuc a) (negsuc b) r l m e = ap Ok e
