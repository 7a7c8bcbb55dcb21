-- What a target depends on directly, by numbers: the row of the target in the graph, in order.
use Rattle.std.specs.Prelude.{◌≢◌, ◌↔◌, ℕ, List}
use Rattle.std.specs.List.{Contains}
use Rattle.std.specs.List.Sorted.{IsStrictlyIncreasing}

-- the numbers of a row but for the target's own, ascending, each once
pub record AreDirect (row : List ℕ) (x : ℕ) (ds : List ℕ) : Type 0 where
  pub ascending : IsStrictlyIncreasing ds
  pub each : (y : ℕ) → Contains ds y ↔ (Contains row y × (y ≢ x))
