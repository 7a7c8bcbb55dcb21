-- Values for the first of a number of parameters.
use Rattle.std.specs.Prelude.{ℕ, ◌-◌, List, ◌++◌, length, map, replicate, Option, Some, None}
use Rattle.bq_value.specs.Datum.{Datum}

-- the values, and none for the other parameters
abbrev pub padded : ℕ → List Datum → List (Option Datum)
padded count xs = map Some xs ++ replicate (count - length xs) None
