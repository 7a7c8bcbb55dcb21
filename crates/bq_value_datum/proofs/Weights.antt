-- How the weights of a list change.
use Rattle.std.proofs.Common.{◌≡◌, ◌+◌, List, [], ◌∷◌, ◌++◌, ◌∙◌, ap, arith}
use Rattle.bq_value_datum.specs.Datum.{Datum, data_of, weight, weights}

weights_append : (xs ys : List Datum) → weights (data_of (xs ++ ys)) + 1 ≡ weights (data_of xs) + weights (data_of ys)
weights_append [] ys = omega arith
weights_append (x ∷ xs) ys = omega (arith, weights_append xs ys)

pub pushed : (xs : List Datum) (v : Datum) → weights (data_of (xs ++ v ∷ [])) ≡ weights (data_of xs) + weight v + 1
pushed xs v = omega (arith, weights_append xs (v ∷ []))

pub popped : (old new : List Datum) (v : Datum) → old ≡ new ++ v ∷ [] → weights (data_of old) ≡ weights (data_of new) + weight v + 1
popped old new v e = ap (λ xs. weights (data_of xs)) e ∙ pushed new v
