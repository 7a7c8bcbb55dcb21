-- How often a number occurs in a list, and a sum over a list.
use Rattle.std.specs.Prelude.{ℕ, zero, suc, ◌+◌, ◌<◌, ◌==◌, cond, List, [], ◌∷◌}

-- the sum of what `f` gives for the members of a list
abbrev pub total : {A : Type 0} → (A → ℕ) → List A → ℕ
total f [] = 0
total f (x ∷ xs) = f x + total f xs

-- how many times a number stands in a list
abbrev pub times : ℕ → List ℕ → ℕ
times x ys = total (λ y. cond (y == x) 1 0) ys

-- a number stands in a list
abbrev pub Has : List ℕ → ℕ → Type 0
Has ys x = 0 < times x ys

-- the sum of f over the numbers below n
abbrev pub below : (ℕ → ℕ) → ℕ → ℕ
below f zero = 0
below f (suc n) = below f n + f n
