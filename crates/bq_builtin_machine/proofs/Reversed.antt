-- Values that lie in reverse, so that the next one is the last.
use Rattle.std.proofs.Common.{◌≡◌, ℤ, List, [], ◌∷◌, ◌++◌, map, length}
use Rattle.std.specs.Prelude.{reverse}
use Rattle.std.proofs.lemmas.List.{reverse-append, reverse-reverse, length-reverse, length-map}
use Rattle.bq_value.specs.Datum.{Datum, int}

pub reversed_twice : (xs : List Datum) → reverse (reverse xs) ≡ xs
reversed_twice xs = reverse-reverse xs

pub popped : (xs : List Datum) (x : Datum) → reverse (xs ++ x ∷ []) ≡ x ∷ reverse xs
popped xs x = reverse-append xs (x ∷ [])

pub reversed_length : (xs : List Datum) → length (reverse xs) ≡ length xs
reversed_length xs = length-reverse xs

pub mapped_length : (xs : List ℤ) → length (map int xs) ≡ length xs
mapped_length xs = length-map xs int
