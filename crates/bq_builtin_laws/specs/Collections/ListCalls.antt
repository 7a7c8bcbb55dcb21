-- Calls of the methods of lists, with positional arguments.
use Rattle.std.specs.Prelude.{ℕ, List}
use Rattle.bq_value.specs.Datum.{Datum}
use Rattle.bq_builtin_machine.specs.State.{State}
use Rattle.bq_builtin_machine.specs.Action.{Action}
use Rattle.bq_builtin_methods.specs.List as list
use Rattle.bq_builtin_methods.specs.List.{list_changed}
pub use Rattle.bq_builtin_methods.specs.List.{remove_value}

-- `l.append(x)` with these arguments, where the list is the cell `number` of the module `home`
abbrev pub append : ℕ → ℕ → List Datum → Action State Datum
append home number args = list_changed list.append home number args

-- `l.clear()` with these arguments, where the list is the cell `number` of the module `home`
abbrev pub clear : ℕ → ℕ → List Datum → Action State Datum
clear home number args = list_changed list.clear home number args

-- `l.extend(x)` with these arguments, where the list is the cell `number` of the module `home`
abbrev pub extend : ℕ → ℕ → List Datum → Action State Datum
extend home number args = list_changed list.extend home number args

-- `l.insert(i, x)` with these arguments, where the list is the cell `number` of the module `home`
abbrev pub insert_at : ℕ → ℕ → List Datum → Action State Datum
insert_at home number args = list_changed list.insert_at home number args

-- `l.pop(i)` with these arguments, where the list is the cell `number` of the module `home`
abbrev pub pop : ℕ → ℕ → List Datum → Action State Datum
pop home number args = list_changed list.pop home number args
