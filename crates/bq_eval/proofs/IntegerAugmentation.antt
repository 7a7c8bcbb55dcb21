-- To an integer, an augmented assignment does what its operator does.
use Rattle.std.proofs.Common.{◌≡◌, ◌∙◌, ℤ, refl, sym, ap}
use Rattle.bq_parse_grammar.specs.declared.tree.Operator.{Operator}
use Rattle.bq_parse_grammar.specs.declared.tree.Operator.TheVariants as op
use Rattle.bq_value.specs.Datum.{Datum, int}
use Rattle.bq_builtin_machine.specs.State.{State}
use Rattle.bq_builtin_augment.specs.InPlace.{augment, augment_sum, augment_union}
use Rattle.bq_builtin_operators.specs.Operate.{binary}

of_integer : (o : Operator) (n : ℤ) (b : Datum) (s : State) → augment o (int n) b s ≡ binary o (int n) b s
unfolding augment augment_sum augment_union binary
of_integer op.Multiply n b s = refl
of_integer op.Divide n b s = refl
of_integer op.FloorDivide n b s = refl
of_integer op.Modulo n b s = refl
of_integer op.Add n b s = refl
of_integer op.Subtract n b s = refl
of_integer op.ShiftLeft n b s = refl
of_integer op.ShiftRight n b s = refl
of_integer op.BitAnd n b s = refl
of_integer op.BitXor n b s = refl
of_integer op.BitOr n b s = refl
of_integer op.And n b s = refl
of_integer op.Or n b s = refl

pub integer_augmented : (o : Operator) (a b : Datum) (n : ℤ) (s : State) → a ≡ int n → augment o a b s ≡ binary o a b s
integer_augmented o a b n s is = ap (λ v. augment o v b s) is ∙ (of_integer o n b s ∙ ap (λ v. binary o v b s) (sym is))
