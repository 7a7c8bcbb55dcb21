-- The bounds of slices and of ranges.
use Rattle.std.proofs.Common.{◌≡◌, ◌≢◌, ◌∙◌, ◌*◌, ◌%◌, ◌<◌, ℕ, zero, suc, ℤ, pos, Bool, true, false, refl, sym, ap, arith, FitsSigned, w64}
use Rattle.std.specs.Prelude.{◌&&◌, ◌==◌, ◌-ℤ◌, unsigned_abs, negsuc, neg_ℤ, ◌+ℤ◌, ◌<ℤ◌, ◌≤ℤ◌, int_lt, int_le}
use Rattle.std.proofs.lemmas.Int.{ints}
use Rattle.bq_value.specs.Range.{range_count, range_element}
use Rattle.bq_value.proofs.Elements.{elements_counted}
use Rattle.std.specs.Ordering.{int_eq}
use Rattle.std.specs.Cmp.{signed_Decides}
use Rattle.bq_builtin_strings.specs.RangeItem.{is_between, range_has}
use Rattle.bq_builtin_strings.specs.Slice.{from_start}

pub lt_true : (a b : ℤ) → a <ℤ b → int_lt a b ≡ true
lt_true a b l = grind (arith, ints)

pub lt_false : (a b : ℤ) → b ≤ℤ a → int_lt a b ≡ false
lt_false a b l = grind (arith, ints)

pub le_true : (a b : ℤ) → a ≤ℤ b → int_le a b ≡ true
le_true a b l = grind (arith, ints)

pub le_false : (a b : ℤ) → b <ℤ a → int_le a b ≡ false
le_false a b l = grind (arith, ints)

pub from_end : (len index r : ℤ) → index <ℤ pos 0 → r ≡ index +ℤ len → r ≡ from_start len index
from_end len index r l e = rw (lt_true index (pos 0) l) e

pub from_begin : (len index : ℤ) → pos 0 ≤ℤ index → index ≡ from_start len index
from_begin len index l = rw (lt_false index (pos 0) l) refl

no_elements : (start stop : ℤ) → range_count start stop (pos 0) ≡ 0
unfolding range_count
no_elements start stop = refl

-- an element has 64 bits, where the ends have
pub element_fits : (start stop step : ℤ) (k : ℕ) → FitsSigned w64 start → FitsSigned w64 stop → k < range_count start stop step → FitsSigned w64 (range_element start step k)
element_fits start stop (pos zero) k f g l = absurd (omega (arith, l, no_elements start stop))
element_fits start stop (pos (suc c)) k f g l =
    let before : (start +ℤ pos (k * suc c)) <ℤ stop = (elements_counted start stop (pos (suc c)) k (λ e. cc)).0 l in
    let fits : FitsSigned w64 (start +ℤ pos (k * suc c)) = search (arith, ints) in
    fits
element_fits start stop (negsuc c) k f g l =
    let after : stop <ℤ (start +ℤ neg_ℤ (pos (k * suc c))) = (elements_counted start stop (negsuc c) k (λ e. cc)).0 l in
    let fits : FitsSigned w64 (start +ℤ neg_ℤ (pos (k * suc c))) = search (arith, ints) in
    fits

eq_false_by : (a b : ℤ) (t : Bool) → int_eq a b ≡ t → (a ≢ b) → t ≡ false
eq_false_by a b true e apart = absurd (apart ((signed_Decides a b).0 e))
eq_false_by a b false e apart = refl

eq_true : (a b : ℤ) → a ≡ b → int_eq a b ≡ true
eq_true a b e = (signed_Decides a b).1 e

pub has_no_step : (start stop step n : ℤ) → step ≡ pos 0 → false ≡ range_has start stop step n
unfolding range_has
has_no_step start stop step n e = rw (eq_true step (pos 0) e) refl

pub has_by : (start stop step n : ℤ) → (step ≢ pos 0) → range_has start stop step n ≡ (is_between start stop step n && (unsigned_abs (n -ℤ start) % unsigned_abs step == 0))
unfolding range_has
has_by start stop step n apart = rw (eq_false_by step (pos 0) (int_eq step (pos 0)) refl apart) refl

pub has_within : (start stop step n : ℤ) (b d : Bool) → (step ≢ pos 0) → b ≡ is_between start stop step n → b ≡ true → d ≡ (unsigned_abs (n -ℤ start) % unsigned_abs step == 0)
    → d ≡ range_has start stop step n
has_within start stop step n b d apart e so f = f ∙ (ap (λ (t : Bool). t && (unsigned_abs (n -ℤ start) % unsigned_abs step == 0)) (sym so ∙ e) ∙ sym (has_by start stop step n apart))

pub has_outside : (start stop step n : ℤ) (b : Bool) → (step ≢ pos 0) → b ≡ is_between start stop step n → b ≡ false → b ≡ range_has start stop step n
has_outside start stop step n b apart e so =
    so ∙ (ap (λ (t : Bool). t && (unsigned_abs (n -ℤ start) % unsigned_abs step == 0)) (sym so ∙ e) ∙ sym (has_by start stop step n apart))
