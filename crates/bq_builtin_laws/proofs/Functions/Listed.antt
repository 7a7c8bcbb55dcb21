-- Lists and tuples of elements.
use Rattle.std.proofs.Common.{◌≡◌, ◌∙◌, sym, ap, Bool, true, false, cond, List, [], ◌∷◌, length, Result, Ok, Err}
use Rattle.std.specs.Prelude.{nat_le}
use Rattle.bq_base.specs.declared.fault.EvalFault.{EvalFault}
use Rattle.bq_base.specs.declared.fault.EvalFault.TheVariants.{TooLong}
use Rattle.bq_builtin_strings.specs.Length.{max_len}
use Rattle.bq_value.specs.Cells.{StoreView}
use Rattle.bq_value.specs.Datum as datum
use Rattle.bq_value.specs.Datum.{Datum, data_of}
use Rattle.bq_builtin_machine.specs.Iteration.{elements_in}
use Rattle.bq_builtin.specs.Arguments as arguments
use Rattle.bq_builtin.specs.Arguments.{only_argument_if_any}
use Rattle.bq_builtin_machine.specs.Answer.{and_then}
use Rattle.bq_builtin_methods.specs.Arguments.{optional_argument}
use Rattle.bq_builtin.specs.Elements.{room_for, listed, listed_if_any}
use Rattle.bq_builtin.specs.Sequences.{list, tuple}
use Rattle.bq_builtin_laws.specs.Functions.Words.{by_place}

abbrev Listing : Type 0
Listing = Result (List Datum) EvalFault

abbrev room : List Datum → Listing
room xs = and_then (cond (nat_le (length xs) max_len) (Ok tt) (Err TooLong)) (λ (u : Unit {0}). Ok xs)

roomy : (b : Bool) (xs ys : List Datum) → and_then (cond b (Ok tt) (Err TooLong)) (λ (u : Unit {0}). Ok xs) ≡ Ok ys → ys ≡ xs
roomy true xs ys h = cc
roomy false xs ys h = absurd (cc)

pub list_is : (s : StoreView) (x : Datum) (xs ys : List Datum) → elements_in s x ≡ Ok xs → list s (by_place (x ∷ [])) ≡ Ok ys → ys ≡ xs
unfolding list only_argument_if_any arguments.by_place optional_argument listed_if_any listed room_for
list_is s x xs ys known h = roomy (nat_le (length xs) max_len) xs ys (ap (λ (r : Listing). and_then r room) (sym known) ∙ h)

tupled : (b : Bool) (xs : List Datum) (v : Datum) → and_then (and_then (cond b (Ok tt) (Err TooLong)) (λ (u : Unit {0}). Ok xs)) (λ zs. Ok (datum.tuple (data_of zs))) ≡ Ok v → v ≡ datum.tuple (data_of xs)
tupled true xs v h = cc
tupled false xs v h = absurd (cc)

pub tuple_is : (s : StoreView) (x : Datum) (xs : List Datum) (v : Datum) → elements_in s x ≡ Ok xs → tuple s (by_place (x ∷ [])) ≡ Ok v → v ≡ datum.tuple (data_of xs)
unfolding tuple only_argument_if_any arguments.by_place optional_argument listed_if_any listed room_for
tuple_is s x xs v known h = tupled (nat_le (length xs) max_len) xs v (ap (λ (r : Listing). and_then (and_then r room) (λ zs. Ok (datum.tuple (data_of zs)))) (sym known) ∙ h)
