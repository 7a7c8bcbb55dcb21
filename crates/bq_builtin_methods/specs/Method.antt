-- A method: which arguments it takes, and what a call of it gives.
use Rattle.std.specs.Prelude.{nat_le, ◌&&◌, length, if◌then◌else◌, Result, Ok, Err}
use Rattle.bq_base.specs.declared.fault.EvalFault.{EvalFault}
use Rattle.bq_base.specs.declared.fault.EvalFault.TheVariants.{Args}
use Rattle.bq_builtin_machine.specs.Args.{Passed}
use Rattle.bq_builtin_methods.specs.Calling.{Calling}
use Rattle.bq_builtin_methods.specs.declared.row.Parameters.{Parameters}
use Rattle.bq_builtin_methods.specs.declared.row.Parameters.TheVariants.{Positional, Any}

-- a method of receivers `R`: which arguments it takes, and what a call of it on a receiver gives
abbrev pub Method : Type 0 → Type 0
Method R = Parameters × (R → Calling)

-- a method takes these arguments: their number is between the two, and none is passed by name (F52); or it takes any
unfoldable pub fits : Parameters → Passed → Result (Unit {0}) EvalFault
fits (Positional fewest most) args = if nat_le (length args.named) 0 && (nat_le fewest (length args.positional) && nat_le (length args.positional) most) then Ok tt else Err Args
fits Any args = Ok tt
