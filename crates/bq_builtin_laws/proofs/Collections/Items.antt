-- `popitem` takes the first of a dict's items, and `setdefault` leaves a value that is there.
use Rattle.std.proofs.Common.{◌≡◌, ap, List, [], ◌∷◌, map, Option, Some, Result, Ok, Err}
use Rattle.bq_base.specs.declared.fault.EvalFault.{EvalFault}
use Rattle.bq_value.specs.Datum.{Datum}
use Rattle.bq_value.specs.Pairs.{found}
use Rattle.bq_builtin_methods.specs.Dict.{first_out, pair_tuple, with_default}
use Rattle.bq_builtin_methods.proofs.Cases.{with_default_by}

-- the items of an answer and of the pairs that are left
abbrev items_of : Result (Datum × List (Datum × Datum)) EvalFault → List Datum
items_of (Ok r) = r.0 ∷ map pair_tuple r.1
items_of (Err kind) = []

pub first_item : (ps left : List (Datum × Datum)) (answer : Datum) → first_out ps ≡ Ok (answer, left) → map pair_tuple ps ≡ answer ∷ map pair_tuple left
unfolding first_out
first_item [] left answer h = absurd (cc)
first_item (p ∷ ps) left answer h = ap items_of h

pub value_stays : (k d v : Datum) (ps : List (Datum × Datum)) → found k ps ≡ Some v → with_default k d ps ≡ Ok (v, ps)
unfolding with_default
value_stays k d v ps h = ap (λ (o : Option Datum). with_default_by o k d ps) h
