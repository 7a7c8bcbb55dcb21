-- `*` (Starlark, "Arithmetic", "String repetition").
use Rattle.std.specs.Prelude.{ℤ, List, Result}
use Rattle.bq_base.specs.declared.fault.EvalFault.{EvalFault}
use Rattle.bq_base.specs.declared.fault.EvalFault.TheVariants.{WrongType}
use Rattle.bq_parse_grammar.specs.declared.tree.Operator.TheVariants as op
use Rattle.bq_value.specs.Datum.{Datum, int, string, tuple, cell, list_of}
use Rattle.bq_value.specs.Cells.{StoreView}
use Rattle.bq_builtin_machine.specs.State.{State}
use Rattle.bq_builtin_machine.specs.Action.{Action, ◌>>=◌, stop, given}
use Rattle.bq_builtin_operators.specs.Operand.{as_tuple, int_of, list_in}
use Rattle.bq_builtin_machine.specs.Answer.{and_then, as_int, as_string}
use Rattle.bq_builtin_operators.specs.Integers.{arithmetic}
use Rattle.bq_builtin_operators.specs.Sequence.{repeated}
use Rattle.bq_builtin_operators.specs.Sum.{listed}

-- the values of a new list
unfoldable pub list_product : StoreView → Datum → ℤ → Result (List Datum) EvalFault
list_product s a times = and_then (list_in s a) (λ xs. repeated xs times)

-- a string, a tuple or a list `n` times
unfoldable pub times : Datum → ℤ → Action State Datum
times (string text) n = given (as_string (repeated text n))
times (tuple xs) n = given (as_tuple (repeated (list_of xs) n))
times (cell home number) n = listed (λ s. list_product s (cell home number) n)
times _ n = stop WrongType

-- an integer on the left
unfoldable pub int_product : ℤ → Datum → Action State Datum
int_product n (int m) = given (as_int (arithmetic op.Multiply n m))
int_product n b = times b n

-- `a * b`
unfoldable pub product : Datum → Datum → Action State Datum
product (int n) b = int_product n b
product a b = given (int_of b) >>= λ n. times a n
