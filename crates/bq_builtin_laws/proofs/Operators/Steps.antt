-- Slices whose step is left out.
use Rattle.std.proofs.Common.{◌≡◌, refl, List}
use Rattle.std.specs.Prelude.{pos}
use Rattle.bq_value.specs.Datum.{Datum, none, int}
use Rattle.bq_builtin_operators.specs.Slicing.{bounds_of, sliced}

pub step_is_one : (xs : List Datum) (start stop : Datum) → sliced xs start stop none ≡ sliced xs start stop (int (pos 1))
unfolding sliced bounds_of
step_is_one xs start stop = refl
