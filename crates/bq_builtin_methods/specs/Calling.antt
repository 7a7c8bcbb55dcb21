-- What a call of a built-in function or of a method gives, as a row of their tables says it.
use Rattle.std.specs.Prelude.{ℕ, List, Result}
use Rattle.bq_base.specs.declared.fault.EvalFault.{EvalFault}
use Rattle.bq_value.specs.Datum.{Datum}
use Rattle.bq_value.specs.Cells.{StoreView}
use Rattle.bq_builtin_machine.specs.State.{State}
use Rattle.bq_builtin_machine.specs.Action.{Action, ◌>>=◌, look}
use Rattle.bq_builtin_machine.specs.Args.{Passed}
use Rattle.bq_builtin_machine.specs.Cells.{new_list}
use Rattle.bq_builtin_methods.specs.List.{ListCall, list_changed}
use Rattle.bq_builtin_methods.specs.Dict.{DictCall, dict_changed}

-- a value, of what lists and dicts hold and of the arguments; the values of a new list; a change of the list or the dict in a cell, by the
-- positional arguments; or what another action gives
pub data Calling : Type 0 where
  gives : (StoreView → Passed → Result Datum EvalFault) → Calling
  lists : (StoreView → Passed → Result (List Datum) EvalFault) → Calling
  changes_list : ListCall → ℕ × ℕ → Calling
  changes_dict : DictCall → ℕ × ℕ → Calling
  does : (Passed → Action State Datum) → Calling

-- a call with these arguments
abbrev pub called : Calling → Passed → Action State Datum
called (gives value) args = look (λ s. value s.store args)
called (lists values) args = look (λ s. values s.store args) >>= λ xs. new_list xs
called (changes_list call c) args = list_changed call c.0 c.1 args.positional
called (changes_dict call c) args = dict_changed call c.0 c.1 args.positional
called (does action) args = action args
