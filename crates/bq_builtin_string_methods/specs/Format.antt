-- The method that fills a format (Starlark, "string·format"), and its steps.
use Rattle.std.specs.Prelude.{ℕ, List}
use Rattle.bq_value.specs.Datum.{Datum, string}
use Rattle.bq_builtin_format.specs.Method.{formatted}
use Rattle.bq_builtin_machine.specs.State.{State}
use Rattle.bq_builtin_machine.specs.Action.{Action, ◌>>=◌, pure}
use Rattle.bq_builtin_machine.specs.Args.{Passed}
use Rattle.bq_builtin_machine.specs.Machine.{walk}

-- `s.format(..)`, of any arguments
abbrev pub format_text : List ℕ → Passed → Action State Datum
format_text text args = walk (λ store n. formatted store n text args.positional args.named) >>= λ bytes. pure (string bytes)
