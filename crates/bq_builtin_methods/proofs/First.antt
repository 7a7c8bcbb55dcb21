-- The first pair of a dict is the first one with its key, and a key that isn't there is in no pair.
use Rattle.std.proofs.Common.{◌≡◌, ap, cond, true, false, Bool, List, [], ◌∷◌, refl, None, Some}
use Rattle.bq_value.specs.Datum.{Datum}
use Rattle.bq_value.specs.Same.{same}
use Rattle.bq_value.specs.SameLaws.{same-refl}
use Rattle.bq_value.specs.Pairs.{found, without}

pub first_without : (k v : Datum) (ps : List (Datum × Datum)) → without k ((k, v) ∷ ps) ≡ ps
first_without k v ps = ap (λ b. cond b ps ((k, v) ∷ without k ps)) (same-refl k)

absent_by : (k : Datum) (p : Datum × Datum) (ps : List (Datum × Datum)) (b : Bool) → (found k ps ≡ None → without k ps ≡ ps) → cond b (Some p.1) (found k ps) ≡ None → cond b ps (p ∷ without k ps) ≡ p ∷ ps
absent_by k p ps true rest h = absurd (cc)
absent_by k p ps false rest h = ap (λ qs. p ∷ qs) (rest h)

pub absent_without : (k : Datum) (ps : List (Datum × Datum)) → found k ps ≡ None → without k ps ≡ ps
absent_without k [] h = refl
absent_without k (p ∷ ps) h = absent_by k p ps (same k p.0) (absent_without k ps) h
