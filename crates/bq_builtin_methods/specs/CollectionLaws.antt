-- The definitions of the laws of lists and dicts.
use Rattle.std.specs.Prelude.{◌≡◌, [], ◌∷◌, ◌++◌, ℕ, List}
use Rattle.bq_value.specs.Datum.{Datum, cell}
use Rattle.bq_value.specs.Pairs.{keys}
use Rattle.bq_value.specs.Cells.{HoldsDict}
use Rattle.bq_builtin_machine.specs.Action.{done}
use Rattle.bq_builtin_machine.specs.State.{State}
use Rattle.bq_builtin_methods.specs.Dict.{update}

-- the pairs of a dict, keys with values, in the order in which the keys were inserted
abbrev pub Dict : Type 0
Dict = List (Datum × Datum)

-- Keys that were there keep their places, and others come after them.
pub record KeepsPlaces (before after : Dict) : Type 0 where
  pub more : List Datum
  pub keys_after : keys after ≡ keys before ++ more

-- `d.update(e)` of these two dicts, with these named arguments too, leaves this in `d`, wherever the dicts are
abbrev pub UpdateLeaves : List (List ℕ × Datum) → Dict → Dict → Dict → Type 0
UpdateLeaves named dict more after =
    (home number other place : ℕ) (answer : Datum) (s t : State) → HoldsDict s.store home number dict → HoldsDict s.store other place more
    → update home number (record { positional = cell other place ∷ []; named = named }) s ≡ done answer t → HoldsDict t.store home number after
