-- The answer to a query: the members of its set in order.
use Rattle.std.specs.Prelude.{◌↔◌, ℕ, List}
use Rattle.std.specs.List.{Contains}

-- the numbers are those of the set
abbrev pub AreThose : (ℕ → Type 0) → List ℕ → Type 0
AreThose P v = (y : ℕ) → (Contains v y) ↔ P y
