-- Values that lie in reverse, so that the next one is the last.
use Rattle.std.proofs.Common.{◌≡◌, List, [], ◌∷◌, ◌++◌, length}
use Rattle.std.specs.Prelude.{reverse}
use Rattle.std.proofs.lemmas.List.{reverse-append, reverse-reverse, length-reverse}

pub popped : {A : Type 0} (xs : List A) (x : A) → reverse (xs ++ x ∷ []) ≡ x ∷ reverse xs
popped xs x = reverse-append xs (x ∷ [])

pub reversed_length : {A : Type 0} (xs : List A) → length (reverse xs) ≡ length xs
reversed_length xs = length-reverse xs

pub reversed_twice : {A : Type 0} (xs : List A) → reverse (reverse xs) ≡ xs
reversed_twice xs = reverse-reverse xs
