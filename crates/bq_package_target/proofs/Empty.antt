-- A list of no elements.
use Rattle.std.proofs.Common.{◌≡◌, List, [], ◌∷◌, length, refl, arith}

pub none_left : {X : Type 0} (xs : List X) → length xs ≡ 0 → [] ≡ xs
none_left [] e = refl
none_left (x ∷ xs) e = absurd (omega (arith, e))
