-- Calls of the methods of dicts, with positional arguments; `update` takes others, too.
use Rattle.std.specs.Prelude.{ℕ, List}
use Rattle.bq_value.specs.Datum.{Datum}
use Rattle.bq_builtin_machine.specs.State.{State}
use Rattle.bq_builtin_machine.specs.Action.{Action}
use Rattle.bq_builtin_methods.specs.Dict as dict
use Rattle.bq_builtin_methods.specs.Dict.{dict_changed}
pub use Rattle.bq_builtin_methods.specs.Dict.{pop, setdefault, update}

-- `d.clear()` with these arguments, where the dict is the cell `number` of the module `home`
abbrev pub clear : ℕ → ℕ → List Datum → Action State Datum
clear home number args = dict_changed dict.clear home number args

-- `d.popitem()` with these arguments, where the dict is the cell `number` of the module `home`
abbrev pub popitem : ℕ → ℕ → List Datum → Action State Datum
popitem home number args = dict_changed dict.popitem home number args
