-- Lists that are sorted backwards.
use Rattle.std.proofs.Common.{◌≡◌, Bool, true, false, cond, List, [], ◌∷◌, length, Result, Ok, Err, codes}
use Rattle.std.specs.Prelude.{reverse, nat_le}
use Rattle.bq_base.specs.declared.fault.EvalFault.{EvalFault}
use Rattle.bq_base.specs.declared.fault.EvalFault.TheVariants.{TooLong}
use Rattle.bq_builtin_strings.specs.Length.{max_len}
use Rattle.bq_value.specs.Cells.{StoreView}
use Rattle.bq_value.specs.Datum.{Datum, boolean}
use Rattle.bq_builtin_machine.specs.Iteration.{elements_in}
use Rattle.bq_builtin.specs.Arguments.{only_named, one_and_named, flag}
use Rattle.bq_builtin_machine.specs.Answer.{and_then}
use Rattle.bq_builtin_methods.specs.Arguments.{one_or_two}
use Rattle.bq_builtin.specs.Choosing.{in_order, sorted}
use Rattle.bq_builtin.specs.Elements.{room_for}
use Rattle.bq_builtin_laws.specs.Functions.Words.{by_place}

abbrev Listing : Type 0
Listing = Result (List Datum) EvalFault

abbrev room : Bool → List Datum → Listing
room b ys = and_then (cond b (Ok tt) (Err TooLong)) (λ (u : Unit {0}). Ok ys)

roomy : (b : Bool) (ys zs us : List Datum) → room b (reverse ys) ≡ Ok zs → room b ys ≡ Ok us → zs ≡ reverse us
roomy true ys zs us h k = cc
roomy false ys zs us h k = absurd (cc)

-- what is sorted, one way or the other, of elements that are in order
ordered : (r : Listing) (zs us : List Datum) → and_then r (λ ys. room (nat_le (length ys) max_len) (reverse ys)) ≡ Ok zs → and_then r (λ ys. room (nat_le (length ys) max_len) ys) ≡ Ok us → zs ≡ reverse us
ordered (Ok ys) zs us h k = roomy (nat_le (length ys) max_len) ys zs us h k
ordered (Err why) zs us h k = absurd (cc)

listed : (r : Listing) (zs us : List Datum) → and_then r (λ xs. and_then (in_order xs) (λ ys. room (nat_le (length ys) max_len) (reverse ys))) ≡ Ok zs
    → and_then r (λ xs. and_then (in_order xs) (λ ys. room (nat_le (length ys) max_len) ys)) ≡ Ok us → zs ≡ reverse us
listed (Ok xs) zs us h k = ordered (in_order xs) zs us h k
listed (Err why) zs us h k = absurd (cc)

pub backwards : (s : StoreView) (x : Datum) (us zs : List Datum) → sorted s (by_place (x ∷ [])) ≡ Ok us
    → sorted s (record { positional = x ∷ []; named = (codes "reverse", boolean true) ∷ [] }) ≡ Ok zs → zs ≡ reverse us
unfolding sorted one_and_named one_or_two only_named flag room_for
backwards s x us zs h k = listed (elements_in s x) zs us k h
