-- What each operator does (Starlark, "Unary operators", "Binary operators", "Index expressions", "Slice expressions"):
-- a definition for each kind of operator.
use Rattle.std.specs.Prelude.{List, Result}
use Rattle.bq_parse_grammar.specs.declared.tree.Operator.{Operator}
use Rattle.bq_parse_grammar.specs.declared.tree.Operator.TheVariants as op
use Rattle.bq_parse_grammar.specs.declared.tree.UnaryOperator.{UnaryOperator}
use Rattle.bq_parse_grammar.specs.declared.tree.Comparison.{Comparison}
use Rattle.bq_base.specs.declared.fault.EvalFault.{EvalFault}
use Rattle.bq_value.specs.Datum.{Datum, boolean, string, tuple, list_of}
use Rattle.bq_value.specs.Cells.{StoreView}
use Rattle.bq_builtin_machine.specs.State.{State}
use Rattle.bq_builtin_machine.specs.Action.{Action, ◌>>=◌, pure, stop, given, look}
use Rattle.bq_builtin_machine.specs.Machine.{walk}
use Rattle.bq_builtin_operators.specs.Operand.{as_tuple, list_in}
use Rattle.bq_builtin_machine.specs.Answer.{and_then, as_string}
use Rattle.bq_builtin_operators.specs.Integers.{integers, signed}
use Rattle.bq_builtin_operators.specs.Comparing.{compared}
use Rattle.bq_builtin_operators.specs.Subscript.{item_of}
use Rattle.bq_builtin_operators.specs.Slicing.{sliced}
use Rattle.bq_builtin_operators.specs.Sum.{sum, listed}
use Rattle.bq_builtin_operators.specs.Product.{product}
use Rattle.bq_builtin_operators.specs.Remainder.{remainder}
use Rattle.bq_builtin_operators.specs.Union.{union}

-- `a op b`; the other operators are between integers alone
unfoldable pub binary : Operator → Datum → Datum → Action State Datum
binary op.Multiply a b = product a b
binary op.Modulo a b = remainder a b
binary op.Add a b = sum a b
binary op.BitOr a b = union a b
binary operator a b = given (integers operator a b)

-- `op v`
unfoldable pub unary : UnaryOperator → Datum → Action State Datum
unary operator v = look (λ s. signed operator s.store v)

-- `a op b`, `True` or `False`
unfoldable pub compare : Comparison → Datum → Datum → Action State Datum
compare comparison a b = walk (λ s n. compared comparison s n a b) >>= λ so. pure (boolean so)

-- `container[at]`
unfoldable pub index : Datum → Datum → Action State Datum
index container at = walk (λ s n. item_of s n container at)

-- `a[start:stop:step]`, of a list
unfoldable pub list_slice : StoreView → Datum → Datum → Datum → Datum → Result (List Datum) EvalFault
list_slice s a start stop step = and_then (list_in s a) (λ xs. sliced xs start stop step)

-- `a[start:stop:step]`, each `None` where it is left out
unfoldable pub slice : Datum → Datum → Datum → Datum → Action State Datum
slice (string text) start stop step = given (as_string (sliced text start stop step))
slice (tuple xs) start stop step = given (as_tuple (sliced (list_of xs) start stop step))
slice a start stop step = listed (λ s. list_slice s a start stop step)
