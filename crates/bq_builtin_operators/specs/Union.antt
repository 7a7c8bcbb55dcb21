-- `|` (Starlark, "Arithmetic", "Dictionaries").
use Rattle.std.specs.Prelude.{List, [], ◌∷◌, Option, Some, None, Result}
use Rattle.bq_base.specs.declared.fault.EvalFault.{EvalFault}
use Rattle.bq_parse_grammar.specs.declared.tree.Operator.TheVariants as op
use Rattle.bq_value.specs.Datum.{Datum, cell}
use Rattle.bq_value.specs.Contents.{pairs}
use Rattle.bq_value.specs.Pairs.{put}
use Rattle.bq_value.specs.Cells.{StoreView}
use Rattle.bq_builtin_machine.specs.State.{State}
use Rattle.bq_builtin_machine.specs.Action.{Action, ◌>>=◌, given, look}
use Rattle.bq_builtin_machine.specs.Cells.{new_content}
use Rattle.bq_builtin_operators.specs.Operand.{dict_in}
use Rattle.bq_builtin_machine.specs.Answer.{and_then}
use Rattle.bq_builtin_operators.specs.Integers.{integers}
use Rattle.bq_builtin_operators.specs.Sequence.{limited}

-- each pair put in turn: a key that is there gets the value, a new one goes last
abbrev pub put_all : List (Datum × Datum) → List (Datum × Datum) → List (Datum × Datum)
put_all ps [] = ps
put_all ps (q ∷ qs) = put_all (put q.0 q.1 ps) qs

-- a new dict, into which the pairs of both are put in turn
unfoldable pub united : List (Datum × Datum) → List (Datum × Datum) → Result (List (Datum × Datum)) EvalFault
united ps qs = limited (put_all (put_all [] ps) qs)

-- the pairs of a new dict
unfoldable pub dict_union : StoreView → Datum → Datum → Result (List (Datum × Datum)) EvalFault
dict_union s a b = and_then (dict_in s a) (λ ps. and_then (dict_in s b) (λ qs. united ps qs))

-- `a | b`
unfoldable pub union : Datum → Datum → Action State Datum
union (cell home number) b = look (λ s. dict_union s.store (cell home number) b) >>= λ ps. new_content (pairs ps)
union a b = given (integers op.BitOr a b)

-- the first value, where there is one
abbrev pub or_else : Option Datum → Option Datum → Option Datum
or_else (Some v) other = Some v
or_else None other = other
