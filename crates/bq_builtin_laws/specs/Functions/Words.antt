-- Words of the laws of built-in functions.
use Rattle.std.specs.Prelude.{◌≡◌, ◌<◌, ◌↔◌, ℕ, ℤ, ◌+ℤ◌, ◌*ℤ◌, pos, List, [], ◌∷◌, length, slice_get, Some}
use Rattle.bq_value.specs.Datum.{Datum, int}
use Rattle.bq_value.specs.Range.{IsBefore}
use Rattle.bq_builtin_machine.specs.Args.{Passed}

-- these arguments by place, and none by name
abbrev pub by_place : List Datum → Passed
by_place vs = record { positional = vs; named = [] }

-- these arguments by place, and one by name
abbrev pub also_named : List Datum → List ℕ → Datum → Passed
also_named vs name v = record { positional = vs; named = (name, v) ∷ [] }

-- a number of integers, each `step` after the one before, from `start` on: as many as lie before `stop`
pub record AreCounted (start stop step : ℤ) (xs : List Datum) : Type 0 where
  pub elements : (k : ℕ) → k < length xs → slice_get xs k ≡ Some (int (start +ℤ (pos k *ℤ step)))
  pub count : (k : ℕ) → (k < length xs) ↔ IsBefore (start +ℤ (pos k *ℤ step)) stop step
