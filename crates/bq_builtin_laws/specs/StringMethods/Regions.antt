-- Where a text stands in a region of a string, in places of the whole string.
use Rattle.std.specs.Prelude.{◌≡◌, ◌<◌, ◌≤◌, ◌+◌, ◌-◌, ℕ, ℤ, List, length, slice_get, Option, Some, Ok}
use Rattle.bq_value.specs.Datum.{Datum, string}
use Rattle.bq_builtin_strings.specs.Place.{bound}
use Rattle.bq_builtin_strings.specs.Search.{StandsAt}
use Rattle.bq_builtin_string_methods.specs.Argument.{place_in}

-- the arguments of a search: what is looked for, and the start and the end of the region, each of which may be left out
pub record Asks (vs : List Datum) (sub : List ℕ) (start end : Option ℤ) : Type 0 where
  pub what : slice_get vs 0 ≡ Some (string sub)
  pub from : place_in (slice_get vs 1) ≡ Ok start
  pub to : place_in (slice_get vs 2) ≡ Ok end

-- the string has `sub` at this place, and all of it lies in the region from one place to another. A region that ends before its start
-- is empty, and lies at its start.
pub record StandsBetween (sub text : List ℕ) (low high at : ℕ) : Type 0 where
  pub there : StandsAt sub text at
  pub after_start : low ≤ at
  pub before_end : at + length sub ≤ low + (high - low)

-- the same, where the start and the end of the region clamp as those of a slice
abbrev pub StandsInRegion : List ℕ → List ℕ → Option ℤ → Option ℤ → ℕ → Type 0
StandsInRegion sub text start end at = StandsBetween sub text (bound (length text) 0 start) (bound (length text) (length text) end) at

-- the least such place
abbrev pub IsFirstInRegion : List ℕ → List ℕ → Option ℤ → Option ℤ → ℕ → Type 0
IsFirstInRegion sub text start end at = StandsInRegion sub text start end at × ((k : ℕ) → k < at → StandsInRegion sub text start end k → ⊥)

-- the greatest
abbrev pub IsLastInRegion : List ℕ → List ℕ → Option ℤ → Option ℤ → ℕ → Type 0
IsLastInRegion sub text start end at = StandsInRegion sub text start end at × ((k : ℕ) → at < k → StandsInRegion sub text start end k → ⊥)

-- there is none
abbrev pub IsNotInRegion : List ℕ → List ℕ → Option ℤ → Option ℤ → Type 0
IsNotInRegion sub text start end = (k : ℕ) → StandsInRegion sub text start end k → ⊥
