-- Rows by their places, as calls find them.
use Rattle.std.specs.Prelude.{◌≡◌, ℕ, suc, List, [], ◌∷◌, map, slice_get, if◌then◌else◌, Option, Some, None}
use Rattle.std.specs.Map.{values_of}
use Rattle.std.specs.Str.{bytes_eq}
use Rattle.bq_base.specs.declared.fault.EvalFault.TheVariants.{NoMethod}
use Rattle.bq_value.specs.Datum.{Datum}
use Rattle.bq_builtin_machine.specs.State.{State}
use Rattle.bq_builtin_machine.specs.Action.{Action, ◌>>◌, stop, given}
use Rattle.bq_builtin_machine.specs.Args.{Passed}
use Rattle.bq_builtin_methods.specs.Calling.{called}
use Rattle.bq_builtin_methods.specs.declared.row.Parameters.{Parameters}
use Rattle.bq_builtin_methods.specs.Method.{Method, fits}
use Rattle.bq_builtin_methods.specs.Call.{call_in}

-- the names of a table's methods, and which arguments they take
abbrev pub columns : {R : Type 0} → List (List ℕ × Method R) → List (List ℕ × Parameters)
columns table = map (λ row. (row.0, row.1.0)) table

-- the place of the row of this name, and which arguments its method takes, where the first of the rows has this place
unfoldable pub row_from : ℕ → List ℕ → List (List ℕ × Parameters) → Option (ℕ × Parameters)
row_from place name [] = None
row_from place name (x ∷ xs) = if bytes_eq name x.0 then Some (place, x.1) else row_from (suc place) name xs

-- what a call of the method of a row gives, with arguments that it takes; no call has the place of a row that isn't there
abbrev pub called_at : {R : Type 0} → Option (Method R) → R → Passed → Action State Datum
called_at None receiver args = stop NoMethod
called_at (Some method) receiver args = called (method.1 receiver) args

-- a call of the method whose row was found
abbrev pub called_row : {R : Type 0} → List (List ℕ × Method R) → Option (ℕ × Parameters) → R → Passed → Action State Datum
called_row table None receiver args = stop NoMethod
called_row table (Some found) receiver args = given (fits found.1 args) >> called_at (slice_get (values_of table) found.0) receiver args

-- A call by this name is a call of the method whose row was found.
abbrev pub IsRowOf : {R : Type 0} → List (List ℕ × Method R) → List ℕ → Option (ℕ × Parameters) → Type 0
IsRowOf {R = R} table name found = (receiver : R) (args : Passed) (s : State) → call_in table name receiver args s ≡ called_row table found receiver args s
