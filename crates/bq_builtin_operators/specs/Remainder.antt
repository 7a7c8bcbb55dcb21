-- `%` (Starlark, "Arithmetic", "String interpolation").
use Rattle.bq_parse_grammar.specs.declared.tree.Operator.TheVariants as op
use Rattle.bq_value.specs.Datum.{Datum, string}
use Rattle.bq_builtin_format.specs.Percent.{percent_of}
use Rattle.bq_builtin_machine.specs.State.{State}
use Rattle.bq_builtin_machine.specs.Action.{Action, ◌>>=◌, pure, given}
use Rattle.bq_builtin_machine.specs.Machine.{walk}
use Rattle.bq_builtin_operators.specs.Integers.{integers}

-- `a % b`: a string formats what is on the right
unfoldable pub remainder : Datum → Datum → Action State Datum
remainder (string format) b = walk (λ s n. percent_of s n format b) >>= λ text. pure (string text)
remainder a b = given (integers op.Modulo a b)
