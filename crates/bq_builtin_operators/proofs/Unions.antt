-- Which values unions have.
use Rattle.std.proofs.Common.{◌≡◌, ◌∙◌, Bool, true, false, cond, List, [], ◌∷◌, Option, Some, None, refl, ap}
use Rattle.bq_value.specs.Datum.{Datum}
use Rattle.bq_value.specs.Same.{same}
use Rattle.bq_value.specs.SameLaws.{same-true}
use Rattle.bq_value.specs.Pairs.{found, put, HasNoKeyTwice}
use Rattle.bq_value.proofs.Puts.{found_put, other_put}
use Rattle.bq_builtin_operators.specs.Union.{put_all, or_else}

-- the pair that is put first
first_found : (k : Datum) (ps : List (Datum × Datum)) (q : Datum × Datum) (qs : List (Datum × Datum)) → found q.0 qs ≡ None → (b : Bool) → same k q.0 ≡ b
    → or_else (found k qs) (found k (put q.0 q.1 ps)) ≡ or_else (cond b (Some q.1) (found k qs)) (found k ps)
first_found k ps q qs once true e =
    let is : k ≡ q.0 = same-true k q.0 e in
    ap (λ (o : Option Datum). or_else o (found k (put q.0 q.1 ps))) (ap (λ (j : Datum). found j qs) is ∙ once)
    ∙ (ap (λ (j : Datum). found j (put q.0 q.1 ps)) is ∙ found_put q.0 q.1 ps)
first_found k ps q qs once false e = ap (or_else (found k qs)) (other_put k q.0 q.1 ps e)

pub found_union : (k : Datum) (ps qs : List (Datum × Datum)) → HasNoKeyTwice qs → found k (put_all ps qs) ≡ or_else (found k qs) (found k ps)
found_union k ps [] h = refl
found_union k ps (q ∷ qs) h = found_union k (put q.0 q.1 ps) qs h.1 ∙ first_found k ps q qs h.0 (same k q.0) refl
