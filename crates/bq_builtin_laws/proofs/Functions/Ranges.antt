-- The elements of ranges.
use Rattle.std.proofs.Common.{◌≡◌, ◌≢◌, ◌∙◌, sym, ap, subst, refl, suc, ◌<◌, Bool, true, false, cond, List, [], ◌∷◌, length, map, Result, Ok, Err}
use Rattle.std.specs.Prelude.{◌↔◌, ℤ, pos}
use Rattle.std.specs.Ordering.{int_eq}
use Rattle.std.proofs.lemmas.Option.{slice_get-map}
use Rattle.std.proofs.lemmas.Bool.Decides.{Decides-int_eq}
use Rattle.std.specs.Option.{option_map}
use Rattle.bq_base.specs.declared.fault.EvalFault.{EvalFault}
use Rattle.bq_base.specs.declared.fault.EvalFault.TheVariants.{BadValue}
use Rattle.bq_value.specs.Cells.{StoreView}
use Rattle.bq_value.specs.Datum as datum
use Rattle.bq_value.specs.Datum.{Datum, int}
use Rattle.bq_value.specs.Range.{IsBefore, range_element, range_count}
use Rattle.bq_value.proofs.Elements.{elements_counted}
use Rattle.bq_builtin_machine.specs.Iteration.{range_integers, elements_in}
use Rattle.bq_builtin_machine.proofs.Walking.{range_counted, range_at}
use Rattle.bq_builtin.specs.Arguments as arguments
use Rattle.bq_builtin_methods.specs.Arguments.{one_to_three, integer}
use Rattle.bq_builtin.specs.Integers.{range_by, range_from, range}
use Rattle.bq_builtin_laws.specs.Functions.Words.{by_place, AreCounted}

length_map : {A B : Type 0} (f : A → B) (xs : List A) → length (map f xs) ≡ length xs
length_map f [] = refl
length_map f (x ∷ xs) = ap suc (length_map f xs)

module _ (start stop step : ℤ) (some : step ≢ pos 0) where
  abbrev numbers : List Datum
  numbers = map int (range_integers start stop step)

  count_is : length numbers ≡ range_count start stop step
  count_is = length_map int (range_integers start stop step) ∙ range_counted start stop step

  counted : AreCounted start stop step numbers
  counted = record {
    elements = λ k below.
        let within : k < range_count start stop step = subst (λ n. k < n) count_is below in
        slice_get-map int (range_integers start stop step) k ∙ ap (option_map int) (range_at start stop step k within);
    count = λ k. subst (λ n. (k < n) ↔ IsBefore (range_element start step k) stop step) (sym count_is) (elements_counted start stop step k some);
  }

ranged_by : (start stop step : ℤ) (v : Datum) (b : Bool) → int_eq step (pos 0) ≡ b → cond b (Err BadValue) (Ok (datum.range start stop step)) ≡ Ok v → (step ≢ pos 0) × (v ≡ datum.range start stop step)
ranged_by start stop step v true e h = absurd (cc)
ranged_by start stop step v false e h = (λ zero_step. differs zero_step, let is : v ≡ datum.range start stop step = cc in is)
  where
    differs : step ≡ pos 0 → ⊥
    differs zero_step = let there : int_eq step (pos 0) ≡ true = (Decides-int_eq step (pos 0)).1 zero_step in cc

abbrev values : List Datum → Result (List Datum) EvalFault
values xs = Ok xs

-- what is counted are the elements of what is given
of_range : (s : StoreView) (start stop step : ℤ) (v : Datum) (xs : List Datum) → range_by start stop step ≡ Ok v → elements_in s v ≡ Ok xs → AreCounted start stop step xs
unfolding range_by
of_range s start stop step v xs h known =
    let r = ranged_by start stop step v (int_eq step (pos 0)) refl h in
    let there : elements_in s (datum.range start stop step) ≡ Ok xs = ap (elements_in s) (sym r.1) ∙ known in
    subst (λ ys. AreCounted start stop step ys) (same (numbers start stop step r.0) xs there) (counted start stop step r.0)
  where
    same : (xs ys : List Datum) → values xs ≡ values ys → xs ≡ ys
    same xs ys e = cc

pub to_stop : (s : StoreView) (stop : ℤ) (v : Datum) (xs : List Datum) → range (by_place (int stop ∷ [])) ≡ Ok v → elements_in s v ≡ Ok xs → AreCounted (pos 0) stop (pos 1) xs
unfolding range arguments.by_place one_to_three range_from integer
to_stop s stop v xs h known = of_range s (pos 0) stop (pos 1) v xs h known

pub from_start : (s : StoreView) (start stop : ℤ) (v : Datum) (xs : List Datum) → range (by_place (int start ∷ int stop ∷ [])) ≡ Ok v → elements_in s v ≡ Ok xs → AreCounted start stop (pos 1) xs
unfolding range arguments.by_place one_to_three range_from integer
from_start s start stop v xs h known = of_range s start stop (pos 1) v xs h known

pub by_step : (s : StoreView) (start stop step : ℤ) (v : Datum) (xs : List Datum) → range (by_place (int start ∷ int stop ∷ int step ∷ [])) ≡ Ok v → elements_in s v ≡ Ok xs → AreCounted start stop step xs
unfolding range arguments.by_place one_to_three range_from integer
by_step s start stop step v xs h known = of_range s start stop step v xs h known
