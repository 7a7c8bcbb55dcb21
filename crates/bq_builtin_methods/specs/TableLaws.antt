-- The definitions of the laws of methods.
use Rattle.std.specs.Prelude.{◌≡◌, ◌<◌, ◌⊎◌, ℕ, Bool, true, false, List, ◌∷◌, length, slice_get, Option, Some}
use Rattle.std.specs.List.{IsDistinct}
use Rattle.std.specs.Map.{lookup, keys_of}
use Rattle.std.specs.Str.{bytes_eq}
use Rattle.bq_base.specs.declared.fault.EvalFault.{EvalFault}
use Rattle.bq_base.specs.declared.fault.EvalFault.TheVariants.{Args, NoMethod}
use Rattle.bq_value.specs.Datum.{Datum, string, cell}
use Rattle.bq_value.specs.Cells.{HoldsList, HoldsDict}
use Rattle.bq_builtin_machine.specs.State.{State, stop_at}
use Rattle.bq_builtin_machine.specs.Action.{Run, stopped}
use Rattle.bq_builtin_machine.specs.Args.{Passed}
use Rattle.bq_builtin_methods.specs.Method.{Method}
use Rattle.bq_builtin_methods.specs.Methods.{string_methods, list_methods, dict_methods}
use Rattle.bq_builtin_methods.specs.Call.{call_method}

-- the method of this name, if strings have it
abbrev pub string_method : List ℕ → Option (Method (List ℕ))
string_method name = lookup (bytes_eq name) string_methods

-- if lists have it
abbrev pub list_method : List ℕ → Option (Method (ℕ × ℕ))
list_method name = lookup (bytes_eq name) list_methods

-- if dicts have it
abbrev pub dict_method : List ℕ → Option (Method (ℕ × ℕ))
dict_method name = lookup (bytes_eq name) dict_methods

-- A table has a name for each of its methods, and no name twice.
pub record NamesItsMethods {M : Type 0} (table : List (List ℕ × M)) : Type 0 where
  pub distinct : IsDistinct bytes_eq (keys_of table)
  pub found : (i : ℕ) (name : List ℕ) (method : M) → slice_get table i ≡ Some (name, method) → lookup (bytes_eq name) table ≡ Some method

-- strings, lists and dicts have methods, and no other values
abbrev pub has_methods : Datum → Bool
has_methods (string text) = true
has_methods (cell home number) = true
has_methods _ = false

-- an action that is refused in this state
abbrev pub Refused : EvalFault → State → Run State Datum → Type 0
Refused kind s run = run ≡ stopped (stop_at kind s)

-- this holds of every list, in every state
abbrev pub OfEveryList : (State → Datum → Type 0) → Type 0
OfEveryList P = (home number : ℕ) (values : List Datum) (s : State) → HoldsList s.store home number values → P s (cell home number)

-- this holds of every dict, in every state
abbrev pub OfEveryDict : (State → Datum → Type 0) → Type 0
OfEveryDict P = (home number : ℕ) (dict : List (Datum × Datum)) (s : State) → HoldsDict s.store home number dict → P s (cell home number)

-- each call of a method of this name on the receiver is F58
abbrev pub LacksMethod : List ℕ → State → Datum → Type 0
LacksMethod name s receiver = (args : Passed) → Refused NoMethod s (call_method name receiver args s)

-- each call of this method of the receiver with a keyword argument is F52
abbrev pub TakesNoKeywords : List ℕ → State → Datum → Type 0
TakesNoKeywords name s receiver =
    (args : Passed) (argument : List ℕ × Datum) (others : List (List ℕ × Datum))
    → args.named ≡ argument ∷ others → Refused Args s (call_method name receiver args s)

-- each call of this method of the receiver with fewer or more arguments than these is F52
abbrev pub TakesBetween : ℕ → ℕ → List ℕ → State → Datum → Type 0
TakesBetween fewest most name s receiver =
    (args : Passed) → (length args.positional < fewest) ⊎ (most < length args.positional) → Refused Args s (call_method name receiver args s)
