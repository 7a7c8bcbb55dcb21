-- Operators between two integers.
use Rattle.std.proofs.Common.{◌≡◌, ℤ, refl}
use Rattle.bq_parse_grammar.specs.declared.tree.Operator.{Operator}
use Rattle.bq_parse_grammar.specs.declared.tree.Operator.TheVariants as op
use Rattle.bq_value.specs.Datum.{Datum, int}
use Rattle.bq_builtin_machine.specs.Action.{given}
use Rattle.bq_builtin_machine.specs.State.{State}
use Rattle.bq_builtin_machine.specs.Answer.{as_int}
use Rattle.bq_builtin_operators.specs.Integers.{arithmetic, integers}
use Rattle.bq_builtin_operators.specs.Operate.{binary}
use Rattle.bq_builtin_operators.specs.Product.{product, int_product}
use Rattle.bq_builtin_operators.specs.Remainder.{remainder}
use Rattle.bq_builtin_operators.specs.Sum.{sum}
use Rattle.bq_builtin_operators.specs.Union.{union}

-- each kind of operator has them among its own
pub of_integers : (operator : Operator) (x y : ℤ) (s : State) → binary operator (int x) (int y) s ≡ given (as_int (arithmetic operator x y)) s
unfolding binary product int_product remainder sum union integers
of_integers op.Multiply x y s = refl
of_integers op.FloorDivide x y s = refl
of_integers op.Modulo x y s = refl
of_integers op.Divide x y s = refl
of_integers op.Add x y s = refl
of_integers op.Subtract x y s = refl
of_integers op.ShiftLeft x y s = refl
of_integers op.ShiftRight x y s = refl
of_integers op.BitAnd x y s = refl
of_integers op.BitXor x y s = refl
of_integers op.BitOr x y s = refl
of_integers op.And x y s = refl
of_integers op.Or x y s = refl
