-- The integers of a range.
use Rattle.std.proofs.Common.{◌≡◌, sym, ap, subst, ℕ, zero, suc, ◌<◌, ◌-◌, ℤ, pos, negsuc, length, arith, refl}
use Rattle.std.specs.Prelude.{◌+ℤ◌, ◌≤ℤ◌, FitsSigned}
use Rattle.std.specs.Int.{w64}
use mir.Val.{to_z, of_z}
use Rattle.std.proofs.lemmas.Int.{to_z-of_z, ints}
use Rattle.std.proofs.Math.IntN.{zero-*ℤ, suc_ℤ-*ℤ, pos-*ℤ-pos, pos-*ℤ-negsuc}
use Rattle.bq_value.specs.Range.{range_count, range_element}
use Rattle.bq_value.proofs.Elements.{elements_counted}
use Rattle.bq_builtin_machine.specs.Iteration.{integers}
use Rattle.bq_builtin_machine.specs.Fitting.{AllFit}

pub length-integers : (first step : ℤ) (n : ℕ) → length (integers first step n) ≡ n
length-integers first step zero = refl
length-integers first step (suc n) = ap suc (length-integers (first +ℤ step) step n)

pub first_element : (first step : ℤ) → range_element first step 0 ≡ first
first_element first step = omega (arith, ints, zero-*ℤ step)

pub next_element : (first step : ℤ) (k : ℕ) → range_element (first +ℤ step) step k ≡ range_element first step (suc k)
next_element first step k = omega (arith, ints, suc_ℤ-*ℤ (pos k) step)

-- Where each element of a range fits, all of its integers do.
pub all_fit : (n : ℕ) (first step : ℤ) → ((k : ℕ) → k < n → FitsSigned w64 (range_element first step k)) → AllFit first step n
all_fit zero first step h = tt
all_fit (suc n) first step h =
    (subst (FitsSigned w64) (first_element first step) (h 0 (omega arith)), all_fit n (first +ℤ step) step (λ k below. subst (FitsSigned w64) (sym (next_element first step k)) (h (suc k) (omega (arith, below)))))

fits_between : (low high z : ℤ) → FitsSigned w64 low → FitsSigned w64 high → low ≤ℤ z → z ≤ℤ high → FitsSigned w64 z
fits_between low (pos m) (pos n) a b l h = record { sfits = omega (arith, ints, b.sfits) }
fits_between low (negsuc m) (pos n) a b l h = absurd (omega (arith, ints, h))
fits_between (pos m) high (negsuc n) a b l h = absurd (omega (arith, ints, l))
fits_between (negsuc m) high (negsuc n) a b l h = record { sfits = omega (arith, ints, a.sfits) }

no_element : (start stop : ℤ) (k : ℕ) → k < range_count start stop (pos 0) → ⊥
unfolding range_count
no_element start stop k below = omega (arith, below)

-- the elements of a range lie between its first one and its end
between : (start stop step : ℤ) (k : ℕ) → FitsSigned w64 start → FitsSigned w64 stop → k < range_count start stop step → FitsSigned w64 (range_element start step k)
between start stop (pos zero) k a b below = absurd (no_element start stop k below)
between start stop (pos (suc c)) k a b below =
    let before = (elements_counted start stop (pos (suc c)) k (λ e. cc)).0 below in
    fits_between start stop _ a b (omega (arith, ints, pos-*ℤ-pos k (suc c))) (omega (arith, ints, before))
between start stop (negsuc c) k a b below =
    let before = (elements_counted start stop (negsuc c) k (λ e. cc)).0 below in
    fits_between stop start _ b a (omega (arith, ints, before)) (omega (arith, ints, pos-*ℤ-negsuc k c))

pub elements_fit : (start stop step : ℤ) (n : ℕ) → FitsSigned w64 start → FitsSigned w64 stop → n ≡ range_count start stop step → AllFit start step n
elements_fit start stop step n a b e = all_fit n start step (λ k below. between start stop step k a b (subst (λ m. k < m) e below))

-- after an integer that another one follows, that one fits too
pub next_fits : (first step : ℤ) (n : ℕ) → AllFit first step n → 0 < n - 1 → FitsSigned w64 (first +ℤ step)
next_fits first step (suc (suc n)) h below = h.1.0
next_fits first step _ h below = absurd (omega (arith, below))

-- the same of the integers that 64 bits hold
pub held_elements_fit : (start stop step : ℤ) (n : ℕ) → FitsSigned w64 start → FitsSigned w64 stop → FitsSigned w64 step → n ≡ range_count start stop step → AllFit (to_z w64 (of_z w64 start)) (to_z w64 (of_z w64 step)) n
held_elements_fit start stop step n a b f e = rw (to_z-of_z w64 start a, to_z-of_z w64 step f) (elements_fit start stop step n a b e)

pub held_next_fits : (first step : ℤ) (n : ℕ) → FitsSigned w64 first → FitsSigned w64 step → AllFit first step n → 0 < n - 1 → FitsSigned w64 (to_z w64 (of_z w64 first) +ℤ to_z w64 (of_z w64 step))
held_next_fits first step n a b h below = rw (to_z-of_z w64 first a, to_z-of_z w64 step b) (next_fits first step n h below)
