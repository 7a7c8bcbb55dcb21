-- What `all`, `any`, `max`, `min` and `sorted` give of the integers of a range.
use Rattle.std.proofs.Common.{◌≡◌, ◌∙◌, refl, sym, ap, subst, ℕ, zero, suc, ◌-◌, ◌<◌, ℤ, pos, Bool, true, false, not, cond, nat_lt, nat_le, ◌&&◌, ◌||◌, List, [], ◌∷◌, map, length, reverse, Result, Ok, Err, arith}
use Rattle.std.specs.Prelude.{◌+ℤ◌, ◌≤ℤ◌, ◌<ℤ◌, int_lt, codes, Option}
use Rattle.std.specs.Cmp.{signed_Decides}
use Rattle.std.specs.Ordering.{int_eq, int_cmp, is_lt}
use Rattle.std.specs.declared.cmp.Ordering.{Ordering}
use Rattle.std.proofs.lemmas.List.{length-map}
use Rattle.std.specs.List.{list_all, list_any, best_of}
use Rattle.std.proofs.lemmas.Int.{ints}
use Rattle.std.proofs.lemmas.Bool.Decides.{nat_tests}
use Rattle.bq_base.specs.declared.fault.EvalFault.{EvalFault}
use Rattle.bq_base.specs.declared.fault.EvalFault.TheVariants.{BadValue, TooLong}
use Rattle.bq_builtin_strings.specs.Length.{max_len}
use Rattle.bq_builtin_strings.specs.RangeItem.{range_has}
use Rattle.bq_builtin_strings.proofs.RangeMembers.{has_elements}
use Rattle.bq_value.specs.Datum.{Datum, none, boolean, int, string, tuple, range, cell, function, built_in, rule_function, attribute}
use Rattle.bq_value.specs.Range.{range_count, range_element}
use Rattle.bq_value.specs.Cells.{StoreView}
use Rattle.bq_value.specs.Truth.{truth_of}
use Rattle.bq_builtin_machine.specs.Iteration.{integers, range_integers, elements_in}
use Rattle.bq_builtin_machine.proofs.Integers.{length-integers}
use Rattle.bq_builtin_machine.specs.Args.{Passed}
use Rattle.bq_builtin.specs.Arguments.{one_and_named, flag}
use Rattle.bq_builtin_methods.specs.Arguments.{integer}
use Rattle.bq_builtin_machine.specs.Answer.{and_then}
use Rattle.bq_builtin.specs.Elements.{room_for}
use Rattle.bq_builtin.specs.Truths.{all_true, any_true}
use Rattle.bq_builtin.specs.Order.{into_order, ascending}
use Rattle.bq_builtin.specs.Choosing.{integers_of, beats, last_is_chosen, extreme, in_order, reversed_if, is_long_range, sorted}
use Rattle.bq_builtin.specs.declared.choosing.ExtremeKind.{ExtremeKind}
use Rattle.bq_builtin.specs.declared.choosing.ExtremeKind.TheVariants.{Greatest, Least}
use Rattle.bq_builtin.proofs.Ranges.{isnt_zero, all_but_zero, any_of, some_not_zero, greatest_up, greatest_down, least_up, least_down}

-- ---- `all`, `any`

all_ints : (s : StoreView) (is : List ℤ) → list_all (truth_of s) (map int is) ≡ list_all isnt_zero is
all_ints s [] = refl
all_ints s (i ∷ is) = ap (λ (b : Bool). isnt_zero i && b) (all_ints s is)

any_ints : (s : StoreView) (is : List ℤ) → list_any (truth_of s) (map int is) ≡ list_any isnt_zero is
any_ints s [] = refl
any_ints s (i ∷ is) = ap (λ (b : Bool). isnt_zero i || b) (any_ints s is)

no_steps : (start stop : ℤ) → range_count start stop (pos 0) ≡ 0
unfolding range_count
no_steps start stop = refl

no_step_has : (start stop n : ℤ) → range_has start stop (pos 0) n ≡ false
unfolding range_has
no_step_has start stop n = refl

zero_step : (start stop : ℤ) → not (range_has start stop (pos 0) (pos 0)) ≡ list_all isnt_zero (range_integers start stop (pos 0))
zero_step start stop = ap not (no_step_has start stop (pos 0)) ∙ sym (ap (λ (n : ℕ). list_all isnt_zero (integers start (pos 0) n)) (no_steps start stop))

not_both : (b : Bool) → b ≡ true → b ≡ false → ⊥
not_both true h k = absurd (cc)
not_both false h k = absurd (cc)

all_by : (start stop step : ℤ) (b : Bool) → int_eq step (pos 0) ≡ b → not (range_has start stop step (pos 0)) ≡ list_all isnt_zero (range_integers start stop step)
all_by start stop step true e =
    subst (λ (z : ℤ). not (range_has start stop z (pos 0)) ≡ list_all isnt_zero (range_integers start stop z)) (sym ((signed_Decides step (pos 0)).0 e)) (zero_step start stop)
all_by start stop step false e =
    all_but_zero (range_has start stop step (pos 0)) (range_count start stop step) start step
    (has_elements start stop step (pos 0) (λ h. not_both (int_eq step (pos 0)) ((signed_Decides step (pos 0)).1 h) e))

pub all_in_range_is : (s : StoreView) (start stop step : ℤ) → not (range_has start stop step (pos 0)) ≡ all_true s (map int (range_integers start stop step))
unfolding all_true
all_in_range_is s start stop step = all_by start stop step (int_eq step (pos 0)) refl ∙ sym (all_ints s (range_integers start stop step))

some_step : (start stop step : ℤ) (n : ℕ) → n ≡ range_count start stop step → 0 < n → step ≡ pos 0 → ⊥
some_step start stop step n e more still = omega (arith, e, more, ap (λ (z : ℤ). range_count start stop z) still, no_steps start stop)

pub any_in_range_is : (s : StoreView) (start stop step : ℤ) (n : ℕ) → n ≡ range_count start stop step → any_of n start ≡ any_true s (map int (range_integers start stop step))
unfolding any_true
any_in_range_is s start stop step n e =
    some_not_zero n start step (some_step start stop step n e)
    ∙ (ap (λ (m : ℕ). list_any isnt_zero (integers start step m)) e ∙ sym (any_ints s (range_integers start stop step)))

pub two_or_more : (s : StoreView) (start stop step : ℤ) (n : ℕ) → n ≡ range_count start stop step → 1 < n → true ≡ any_true s (map int (range_integers start stop step))
two_or_more s start stop step zero e more = absurd (omega (arith, more))
two_or_more s start stop step (suc zero) e more = absurd (omega (arith, more))
two_or_more s start stop step (suc (suc n)) e more = any_in_range_is s start stop step (suc (suc n)) e

-- ---- `max`, `min`

pub integers_of_ints : (is : List ℤ) → integers_of (map int is) ≡ Ok is
unfolding integer
integers_of_ints [] = refl
integers_of_ints (i ∷ is) = ap (λ (r : Result (List ℤ) EvalFault). and_then r (λ js. Ok (i ∷ js))) (integers_of_ints is)

pub extreme_of_ints : (e : ExtremeKind) (i : ℤ) (is : List ℤ) → extreme e (map int (i ∷ is)) ≡ Ok (int (best_of (beats e int_cmp) i is))
unfolding extreme
extreme_of_ints e i is = ap (λ (r : Result (List ℤ) EvalFault). and_then r (λ js. Ok (int (best_of (beats e int_cmp) i js)))) (integers_of_ints is)

by_lt : (a b : ℤ) → int_lt a b ≡ true → a <ℤ b
by_lt a b h = grind (arith, ints)

by_not_lt : (a b : ℤ) → int_lt a b ≡ false → b ≤ℤ a
by_not_lt a b h = grind (arith, ints)

best_is : (e : ExtremeKind) (start step : ℤ) (n : ℕ) (b : Bool) → last_is_chosen e step ≡ b → best_of (beats e int_cmp) start (integers (start +ℤ step) step n) ≡ cond b (range_element start step n) start
best_is Greatest start step n true h = greatest_up n start step (by_lt (pos 0) step h)
best_is Greatest start step n false h = greatest_down n start step (by_not_lt (pos 0) step h)
best_is Least start step n true h = least_down n start step (by_lt step (pos 0) h)
best_is Least start step n false h = least_up n start step (by_not_lt step (pos 0) h)

pub extreme_of_none : (e : ExtremeKind) (start stop step : ℤ) → range_count start stop step ≡ 0 → extreme e (map int (range_integers start stop step)) ≡ Err BadValue
unfolding extreme
extreme_of_none e start stop step empty = ap (λ (n : ℕ). extreme e (map int (integers start step n))) empty

extreme_by : (e : ExtremeKind) (start stop step : ℤ) (m : ℕ) (b : Bool) → last_is_chosen e step ≡ b → extreme e (map int (integers start step (suc m))) ≡ Ok (int (cond b (range_element start step m) start))
extreme_by e start stop step m b h = extreme_of_ints e start (integers (start +ℤ step) step m) ∙ ap (λ (z : ℤ). Ok (int z)) (best_is e start step m b h)

pub extreme_is : (e : ExtremeKind) (start stop step : ℤ) (n : ℕ) (b : Bool) → n ≡ range_count start stop step → 0 < n → last_is_chosen e step ≡ b → extreme e (map int (range_integers start stop step)) ≡ Ok (int (cond b (range_element start step (n - 1)) start))
extreme_is e start stop step zero b is some h = absurd (omega (arith, some))
extreme_is e start stop step (suc m) b is some h =
    let one_less : suc m - 1 ≡ m = omega arith in
    ap (λ (k : ℕ). extreme e (map int (integers start step k))) (sym is)
    ∙ (extreme_by e start stop step m b h ∙ ap (λ (k : ℕ). Ok (int (cond b (range_element start step k) start))) (sym one_less))

some_of : (n : ℕ) → (n ≡ 0 → ⊥) → 0 < n
some_of zero h = absurd (h refl)
some_of (suc n) h = omega arith

pub last_chosen : (e : ExtremeKind) (start stop step : ℤ) (n : ℕ) (z last : ℤ) → z ≡ last → last ≡ range_element start step (n - 1) → n ≡ range_count start stop step → (n ≡ 0 → ⊥) → last_is_chosen e step ≡ true
    → Ok (int z) ≡ extreme e (map int (range_integers start stop step))
last_chosen e start stop step n z last here is counted some h = ap (λ (i : ℤ). Ok (int i)) (here ∙ is) ∙ sym (extreme_is e start stop step n true counted (some_of n some) h)

pub first_chosen : (e : ExtremeKind) (start stop step : ℤ) (n : ℕ) (z : ℤ) → z ≡ start → n ≡ range_count start stop step → (n ≡ 0 → ⊥) → last_is_chosen e step ≡ false
    → Ok (int z) ≡ extreme e (map int (range_integers start stop step))
first_chosen e start stop step n z here counted some h = ap (λ (i : ℤ). Ok (int i)) here ∙ sym (extreme_is e start stop step n false counted (some_of n some) h)

-- ---- `sorted`

in_order_ints : (is : List ℤ) → in_order (map int is) ≡ Ok (map int (ascending int_cmp is))
unfolding in_order
in_order_ints [] = refl
in_order_ints (i ∷ is) = ap (λ (r : Result (List ℤ) EvalFault). and_then r (λ js. Ok (map int (ascending int_cmp (i ∷ js))))) (integers_of_ints is)

module _ {A : Type 0} (cmp : A → A → Ordering) where
  length_by : (x y : A) (ys : List A) (b : Bool) → length (into_order cmp x ys) ≡ suc (length ys) → length (cond b (y ∷ into_order cmp x ys) (x ∷ y ∷ ys)) ≡ suc (suc (length ys))
  length_by x y ys true e = ap suc e
  length_by x y ys false e = refl

  length_into : (x : A) (ys : List A) → length (into_order cmp x ys) ≡ suc (length ys)
  length_into x [] = refl
  length_into x (y ∷ ys) = length_by x y ys (is_lt (cmp y x)) (length_into x ys)

  pub length-ascending : (xs : List A) → length (ascending cmp xs) ≡ length xs
  length-ascending [] = refl
  length-ascending (x ∷ xs) = length_into x (ascending cmp xs) ∙ ap suc (length-ascending xs)

no_room : (n : ℕ) → nat_lt max_len n ≡ true → room_for n ≡ Err TooLong
unfolding room_for
no_room n h = let over : nat_le n max_len ≡ false = grind (arith, nat_tests, h) in ap (λ (b : Bool). cond {A = Result (Unit {0}) EvalFault} b (Ok tt) (Err TooLong)) over

-- what is left to do with the elements
abbrev pub arranged : Bool → Result (List Datum) EvalFault → Result (List Datum) EvalFault
arranged reverse r = and_then r (λ ys. and_then (room_for (length ys)) (λ _. Ok (reversed_if reverse ys)))

as_many : (start stop step : ℤ) → length (map int (ascending int_cmp (range_integers start stop step))) ≡ range_count start stop step
as_many start stop step = length-map (ascending int_cmp (range_integers start stop step)) int ∙ (length-ascending int_cmp (range_integers start stop step) ∙ length-integers start step (range_count start stop step))

long_range_by : (reverse : Bool) (start stop step : ℤ) → nat_lt max_len (range_count start stop step) ≡ true → arranged reverse (in_order (map int (range_integers start stop step))) ≡ Err TooLong
long_range_by reverse start stop step h =
    let ys : List Datum = map int (ascending int_cmp (range_integers start stop step)) in
    ap (arranged reverse) (in_order_ints (range_integers start stop step))
    ∙ ap (λ (r : Result (Unit {0}) EvalFault). and_then r (λ _. Ok (reversed_if reverse ys))) (ap room_for (as_many start stop step) ∙ no_room (range_count start stop step) h)

pub long_range_is_too_long : (s : StoreView) (v : Datum) (reverse : Bool) → is_long_range v ≡ true → and_then (elements_in s v) (λ xs. arranged reverse (in_order xs)) ≡ Err TooLong
long_range_is_too_long s (range start stop step) reverse h = long_range_by reverse start stop step h
long_range_is_too_long s none reverse h = absurd (cc)
long_range_is_too_long s (boolean b) reverse h = absurd (cc)
long_range_is_too_long s (int i) reverse h = absurd (cc)
long_range_is_too_long s (string t) reverse h = absurd (cc)
long_range_is_too_long s (tuple xs) reverse h = absurd (cc)
long_range_is_too_long s (cell home number) reverse h = absurd (cc)
long_range_is_too_long s (function home place name xs) reverse h = absurd (cc)
long_range_is_too_long s (built_in b) reverse h = absurd (cc)
long_range_is_too_long s (rule_function f) reverse h = absurd (cc)
long_range_is_too_long s (attribute a) reverse h = absurd (cc)

pub long_range_is_not_sorted : (s : StoreView) (p : Passed) (v : Datum) (o : Option Datum) (reverse : Bool) → one_and_named (codes "reverse") p ≡ Ok (v, o) → flag o ≡ Ok reverse → is_long_range v ≡ true → sorted s p ≡ Err TooLong
unfolding sorted
long_range_is_not_sorted s p v o reverse e f h = rw (e, f) (long_range_is_too_long s v reverse h)
