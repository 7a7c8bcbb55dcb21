-- The functions `type`, `str`, `repr`, `print` and `fail` (Starlark, "type", "str", "repr", "print", "fail").
use Rattle.std.specs.Prelude.{ℕ, List, [], ◌∷◌, codes, Option, Some, None, Result, Ok, Err}
use Rattle.bq_base.specs.declared.fault.EvalFault.{EvalFault}
use Rattle.bq_base.specs.declared.fault.EvalFault.TheVariants.{WrongType}
use Rattle.bq_value.specs.Datum.{Datum, none, boolean, int, string, tuple, range, cell, function, built_in, rule_function, attribute}
use Rattle.bq_value.specs.Contents.{Contents, items, pairs, rule}
use Rattle.bq_value.specs.Cells.{StoreView, content_at}
use Rattle.bq_value.specs.Looked.{Looked}
use Rattle.bq_value_text.specs.Page.{PageView, written}
use Rattle.bq_value_text.specs.Shown as shown
use Rattle.bq_value_text.specs.Shown.{text_shown, finished_by}
use Rattle.bq_builtin_machine.specs.State.{State}
use Rattle.bq_builtin_machine.specs.Action.{Action, ◌>>=◌, ◌>>◌, pure, given}
use Rattle.bq_builtin_machine.specs.Args.{Passed}
use Rattle.bq_builtin_machine.specs.Machine as machine
use Rattle.bq_builtin_machine.specs.Machine.{walk}
use Rattle.bq_builtin_machine.specs.Answer.{and_then}
use Rattle.bq_builtin.specs.Arguments.{by_place, only_argument, only_named, text}

-- ---- `type(x)`

-- a cell that the store doesn't know, which no program has, is of no type (F40)
abbrev pub content_type : Option Contents → Result (List ℕ) EvalFault
content_type (Some (items xs)) = Ok (codes "list")
content_type (Some (pairs ps)) = Ok (codes "dict")
content_type (Some (rule c)) = Ok (codes "rule")
content_type None = Err WrongType

-- the text that `type` gives
unfoldable pub type_name : StoreView → Datum → Result (List ℕ) EvalFault
type_name s none = Ok (codes "NoneType")
type_name s (boolean b) = Ok (codes "bool")
type_name s (int n) = Ok (codes "int")
type_name s (string bytes) = Ok (codes "string")
type_name s (tuple xs) = Ok (codes "tuple")
type_name s (range start stop step) = Ok (codes "range")
type_name s (cell home number) = content_type (content_at s home number)
type_name s (function home place name defaults) = Ok (codes "function")
type_name s (built_in b) = Ok (codes "builtin_function_or_method")
type_name s (rule_function f) = Ok (codes "builtin_function_or_method")
type_name s (attribute a) = Ok (codes "Attribute")

-- `type(x)`
unfoldable pub type_of : StoreView → Passed → Result Datum EvalFault
type_of s p = and_then (only_argument p) (λ v. and_then (type_name s v) (λ name. Ok (string name)))

-- ---- `str(x)`, `repr(x)`

-- `str(x)`
unfoldable pub str : Passed → Action State Datum
str p = given (only_argument p) >>= λ v. machine.text v >>= λ t. pure (string t)

-- `repr(x)`
unfoldable pub repr : Passed → Action State Datum
repr p = given (only_argument p) >>= λ v. machine.repr v >>= λ t. pure (string t)

-- ---- `print(..)`, `fail(..)`

-- the `str` of each value after the separator
abbrev pub others_shown : List ℕ → StoreView → PageView → ℕ → List Datum → Looked PageView
others_shown separator s page n [] = Ok (page, n)
others_shown separator s page n (v ∷ vs) = shown.and_then (text_shown s (written page separator) n v) (λ q m. others_shown separator s q m vs)

-- the `str` of each value, with the separator between two
abbrev pub values_shown : List ℕ → StoreView → PageView → ℕ → List Datum → Looked PageView
values_shown separator s page n [] = Ok (page, n)
values_shown separator s page n (v ∷ vs) = shown.and_then (text_shown s page n v) (λ q m. others_shown separator s q m vs)

-- the text of values and the steps that are left, or the fault; F54 comes last
unfoldable pub joined_texts : List ℕ → StoreView → ℕ → List Datum → Looked (List ℕ)
joined_texts separator s n vs = finished_by (values_shown separator s (Some []) n vs)

-- what stands between the arguments of `print`, where no `sep` is given
abbrev pub space : List ℕ
space = codes " "

-- a string; left out, a space
abbrev pub separator_of : Option Datum → Result (List ℕ) EvalFault
separator_of None = Ok space
separator_of (Some v) = text v

-- `sep`, which is passed by name alone
unfoldable pub separator_in : List (List ℕ × Datum) → Result (List ℕ) EvalFault
separator_in named = and_then (only_named (codes "sep") named) separator_of

-- `print(.., sep)`: a line of the arguments' texts
unfoldable pub print : Passed → Action State Datum
print p =
    given (separator_in p.named) >>= λ separator. walk (λ store n. joined_texts separator store n p.positional) >>= λ t. machine.print t >> pure none

-- F56, with the text as its message
unfoldable pub fail : Passed → Action State Datum
fail p = given (by_place p) >>= λ vs. walk (λ store n. joined_texts space store n vs) >>= λ t. machine.fail t
