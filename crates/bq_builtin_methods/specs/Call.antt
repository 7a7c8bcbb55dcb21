-- Calls of methods (Starlark, "Built-in methods"). A name that the receiver's type lacks is F58.
use Rattle.std.specs.Prelude.{ℕ, List, Option, Some, None}
use Rattle.std.specs.Map.{lookup}
use Rattle.std.specs.Str.{bytes_eq}
use Rattle.bq_base.specs.declared.fault.EvalFault.TheVariants.{NoMethod}
use Rattle.bq_value.specs.Datum.{Datum, string, cell}
use Rattle.bq_value.specs.Contents.{Contents, items, pairs, rule}
use Rattle.bq_builtin_machine.specs.State.{State}
use Rattle.bq_builtin_machine.specs.Action.{Action, ◌>>=◌, ◌>>◌, stop, given}
use Rattle.bq_builtin_machine.specs.Args.{Passed}
use Rattle.bq_builtin_methods.specs.Calling.{called}
use Rattle.bq_builtin_machine.specs.Cells.{content}
use Rattle.bq_builtin_methods.specs.Method.{Method, fits}
use Rattle.bq_builtin_methods.specs.Methods.{string_methods, list_methods, dict_methods}

-- runs the method of this name, if the type has one
abbrev pub if_found : {M : Type 0} → Option M → (M → Action State Datum) → Action State Datum
if_found None run = stop NoMethod
if_found (Some method) run = run method

-- a call of a method of this receiver, with arguments that the method takes (F52)
abbrev pub called_on : {R : Type 0} → Method R → R → Passed → Action State Datum
called_on method receiver args = given (fits method.0 args) >> called (method.1 receiver) args

-- a call of the method that has this name in a table
unfoldable pub call_in : {R : Type 0} → List (List ℕ × Method R) → List ℕ → R → Passed → Action State Datum
call_in table name receiver args = if_found (lookup (bytes_eq name) table) (λ method. called_on method receiver args)

-- a method of a cell, by what that holds
abbrev pub call_by : Contents → List ℕ → ℕ → ℕ → Passed → Action State Datum
call_by (items xs) name home number args = call_in list_methods name (home, number) args
call_by (pairs ps) name home number args = call_in dict_methods name (home, number) args
call_by (rule c) name home number args = stop NoMethod

-- a method of what a cell holds
unfoldable pub call_of_cell : List ℕ → ℕ → ℕ → Passed → Action State Datum
call_of_cell name home number args = content home number >>= λ c. call_by c name home number args

-- `receiver.name(args)`
unfoldable pub call_method : List ℕ → Datum → Passed → Action State Datum
call_method name (string text) args = call_in string_methods name text args
call_method name (cell home number) args = call_of_cell name home number args
call_method name _ args = stop NoMethod
