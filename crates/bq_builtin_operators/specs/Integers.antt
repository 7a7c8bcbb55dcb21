-- Operators between integers, and before one (Starlark, "Arithmetic", "Unary operators").
use Rattle.std.specs.Prelude.{ℤ, pos, ◌+ℤ◌, ◌-ℤ◌, ◌*ℤ◌, neg_ℤ, not, Result, Ok, Err}
use Rattle.bq_base.specs.declared.fault.EvalFault.{EvalFault}
use Rattle.bq_base.specs.declared.fault.EvalFault.TheVariants.{WrongType}
use Rattle.bq_parse_grammar.specs.declared.tree.Operator.{Operator}
use Rattle.bq_parse_grammar.specs.declared.tree.Operator.TheVariants as op
use Rattle.bq_parse_grammar.specs.declared.tree.UnaryOperator.{UnaryOperator}
use Rattle.bq_parse_grammar.specs.declared.tree.UnaryOperator.TheVariants as sign
use Rattle.bq_value.specs.Datum.{Datum, boolean}
use Rattle.bq_value.specs.Cells.{StoreView}
use Rattle.bq_value.specs.Truth.{truth_of}
use Rattle.bq_builtin_strings.specs.Integer.{fitted, both, either, one_of}
use Rattle.bq_builtin_strings.specs.Division.{divided, remainder}
use Rattle.bq_builtin_strings.specs.Shift.{shifted_left, shifted_right}
use Rattle.bq_builtin_operators.specs.Operand.{int_of}
use Rattle.bq_builtin_machine.specs.Answer.{and_then, as_int}

-- `x op y` of two integers. The language has no `/`, and `and` and `or` are not evaluated as operators between values
unfoldable pub arithmetic : Operator → ℤ → ℤ → Result ℤ EvalFault
arithmetic op.Multiply x y = fitted (x *ℤ y)
arithmetic op.FloorDivide x y = divided x y
arithmetic op.Modulo x y = remainder x y
arithmetic op.Divide x y = Err WrongType
arithmetic op.Add x y = fitted (x +ℤ y)
arithmetic op.Subtract x y = fitted (x -ℤ y)
arithmetic op.ShiftLeft x y = shifted_left x y
arithmetic op.ShiftRight x y = shifted_right x y
arithmetic op.BitAnd x y = Ok (both x y)
arithmetic op.BitXor x y = Ok (one_of x y)
arithmetic op.BitOr x y = Ok (either x y)
arithmetic op.And x y = Err WrongType
arithmetic op.Or x y = Err WrongType

-- where both operands are integers
unfoldable pub integers : Operator → Datum → Datum → Result Datum EvalFault
integers operator a b = and_then (int_of a) (λ x. and_then (int_of b) (λ y. as_int (arithmetic operator x y)))

-- `op v`
unfoldable pub signed : UnaryOperator → StoreView → Datum → Result Datum EvalFault
signed sign.Plus s v = as_int (int_of v)
signed sign.Minus s v = as_int (and_then (int_of v) (λ n. fitted (neg_ℤ n)))
signed sign.Invert s v = as_int (and_then (int_of v) (λ n. Ok (neg_ℤ n -ℤ pos 1)))
signed sign.Not s v = Ok (boolean (not (truth_of s v)))
