-- The places of a dict, of which some are empty: a pair that was taken out leaves its key at its place, without a value.
use Rattle.std.specs.Prelude.{ℕ, suc, ◌≤◌, cond, nat_lt, Bool, true, false, List, [], ◌∷◌, Option, Some, None}
use Rattle.bq_value_datum.specs.Datum.{Datum}
use Rattle.bq_value_datum.specs.Same.{same}

-- the keys of a dict's places in their order, each with its value, or with None where the pair was taken out
abbrev pub Places : Type 0
Places = List (Datum × Option Datum)

-- the pairs at the places that aren't empty
abbrev pub live : Places → List (Datum × Datum)
live [] = []
live ((k, Some v) ∷ ps) = (k, v) ∷ live ps
live ((k, None) ∷ ps) = live ps

-- the indices of the empty places, of which the first has this index
abbrev pub empty_from : ℕ → Places → List ℕ
empty_from n [] = []
empty_from n ((k, Some v) ∷ ps) = empty_from (suc n) ps
empty_from n ((k, None) ∷ ps) = n ∷ empty_from (suc n) ps

-- whether what is at the place of a key is nothing
abbrev pub is_empty : Option (Option Datum) → Bool
is_empty (Some None) = true
is_empty (Some (Some v)) = false
is_empty None = false

-- the indices rise, from this one on
abbrev pub Rises : ℕ → List ℕ → Type 0
Rises n [] = Unit {0}
Rises n (i ∷ is) = (n ≤ i) × Rises (suc i) is

-- the index of the place of the pair at this index, where the places with these indices are empty
abbrev pub passed : ℕ → List ℕ → ℕ
passed at [] = at
passed at (i ∷ is) = cond (nat_lt at i) at (passed (suc at) is)

-- this index among others, in order
abbrev pub with_index : ℕ → List ℕ → List ℕ
with_index at [] = at ∷ []
with_index at (i ∷ is) = cond (nat_lt at i) (at ∷ i ∷ is) (i ∷ with_index at is)

-- the index of the pair of a key, or the number of pairs
abbrev pub rank : Datum → List (Datum × Datum) → ℕ
rank k [] = 0
rank k (p ∷ ps) = cond (same k p.0) 0 (suc (rank k ps))
