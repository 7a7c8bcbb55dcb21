-- The pairs of a dict (Starlark, "Dictionaries"): their keys are distinct, and in the order in which they were
-- inserted.
use Rattle.std.specs.Prelude.{◌≡◌, cond, List, [], ◌∷◌, ◌++◌, map, Option, Some, None}
use Rattle.std.specs.Coded.{Coded, coded×, coded_list}
use Rattle.bq_value_datum.specs.Datum.{Datum}
use Rattle.bq_value_datum.specs.Codes.{coded_datum}
use Rattle.bq_value_datum.specs.Same.{same}

-- a code of each list of pairs, which no other list has
abbrev pub coded_pairs : Coded (List (Datum × Datum))
coded_pairs = coded_list (coded× coded_datum coded_datum)

-- the value of a key
abbrev pub found : Datum → List (Datum × Datum) → Option Datum
found k [] = None
found k (p ∷ ps) = cond (same k p.0) (Some p.1) (found k ps)

-- a key that is there keeps its place, and a new one goes last
abbrev pub put : Datum → Datum → List (Datum × Datum) → List (Datum × Datum)
put k v [] = (k, v) ∷ []
put k v (p ∷ ps) = cond (same k p.0) ((p.0, v) ∷ ps) (p ∷ put k v ps)

-- without the key; the others keep their order
abbrev pub without : Datum → List (Datum × Datum) → List (Datum × Datum)
without k [] = []
without k (p ∷ ps) = cond (same k p.0) ps (p ∷ without k ps)

-- no key is twice
abbrev pub HasNoKeyTwice : List (Datum × Datum) → Type 0
HasNoKeyTwice [] = Unit {0}
HasNoKeyTwice (p ∷ ps) = (found p.0 ps ≡ None) × HasNoKeyTwice ps

-- the keys, in order
abbrev pub keys : List (Datum × Datum) → List Datum
keys ps = map (λ p. p.0) ps

-- the new list is the old one but for this pair
pub record TakenOut (k v : Datum) (old new : List (Datum × Datum)) : Type 0 where
  pub before : List (Datum × Datum)
  pub after : List (Datum × Datum)
  pub was : old ≡ before ++ (k, v) ∷ after
  pub left : new ≡ before ++ after
