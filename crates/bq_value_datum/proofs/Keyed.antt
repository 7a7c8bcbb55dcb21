-- Lists of values that are compared as keys.
use Rattle.std.proofs.Common.{◌≡◌, ℕ, suc, zero, ◌<◌, ◌≢◌, ◌&&◌, false, List, [], ◌∷◌, length, get_or, refl, ap, ◌∙◌, arith}
use Rattle.std.proofs.Math.Bool.{and-false}
use Rattle.bq_value_datum.specs.Datum.{Datum, weight, weights, data_of}
use Rattle.bq_value_datum.specs.Same.{same, same_all}

-- lists of different lengths differ
pub apart : (xs ys : List Datum) → length xs ≢ length ys → same_all (data_of xs) (data_of ys) ≡ false
apart [] [] h = absurd (h refl)
apart [] (y ∷ ys) h = refl
apart (x ∷ xs) [] h = refl
apart (x ∷ xs) (y ∷ ys) h = ap (λ b. same x y && b) (apart xs ys (λ e. h (omega (arith, e)))) ∙ and-false (same x y)

-- an element weighs less than the list
pub item_weight : (xs : List Datum) (i : ℕ) (d : Datum) → i < length xs → weight (get_or xs i d) < weights (data_of xs)
item_weight [] i d h = absurd (omega arith)
item_weight (x ∷ xs) zero d h = omega arith
item_weight (x ∷ xs) (suc i) d h = omega (arith, item_weight xs i d (omega arith))

pub ruleset keyed = (apart, item_weight)
