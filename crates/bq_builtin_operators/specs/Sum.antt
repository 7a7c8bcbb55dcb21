-- `+` (Starlark, "Arithmetic", "String concatenation").
use Rattle.std.specs.Prelude.{ℕ, List, Result, Err}
use Rattle.bq_base.specs.declared.fault.EvalFault.{EvalFault}
use Rattle.bq_base.specs.declared.fault.EvalFault.TheVariants.{WrongType}
use Rattle.bq_parse_grammar.specs.declared.tree.Operator.TheVariants as op
use Rattle.bq_value.specs.Datum.{Datum, string, tuple, cell, list_of}
use Rattle.bq_value.specs.Contents.{items}
use Rattle.bq_value.specs.Cells.{StoreView}
use Rattle.bq_builtin_machine.specs.State.{State}
use Rattle.bq_builtin_machine.specs.Action.{Action, ◌>>=◌, given, look}
use Rattle.bq_builtin_machine.specs.Cells.{new_content}
use Rattle.bq_builtin_operators.specs.Operand.{as_tuple, list_in}
use Rattle.bq_builtin_machine.specs.Answer.{and_then, as_string}
use Rattle.bq_builtin_operators.specs.Integers.{integers}
use Rattle.bq_builtin_operators.specs.Sequence.{joined}

-- a string and what is added to it
unfoldable pub string_sum : List ℕ → Datum → Result Datum EvalFault
string_sum text (string more) = as_string (joined text more)
string_sum text _ = Err WrongType

-- a tuple and what is added to it
unfoldable pub tuple_sum : List Datum → Datum → Result Datum EvalFault
tuple_sum xs (tuple ys) = as_tuple (joined xs (list_of ys))
tuple_sum xs _ = Err WrongType

-- the values of a new list
unfoldable pub list_sum : StoreView → Datum → Datum → Result (List Datum) EvalFault
list_sum s a b = and_then (list_in s a) (λ xs. and_then (list_in s b) (λ ys. joined xs ys))

-- a new list of these values, or the fault
abbrev pub listed : (StoreView → Result (List Datum) EvalFault) → Action State Datum
listed values = look (λ s. values s.store) >>= λ xs. new_content (items xs)

-- `a + b`
unfoldable pub sum : Datum → Datum → Action State Datum
sum (string text) b = given (string_sum text b)
sum (tuple xs) b = given (tuple_sum (list_of xs) b)
sum (cell home number) b = listed (λ s. list_sum s (cell home number) b)
sum a b = given (integers op.Add a b)
