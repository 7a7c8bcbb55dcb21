-- What a built-in function does that is called (Starlark specification, "Function and method calls").
use Rattle.bq_predeclared.specs.declared.predeclared.Predeclared.{Predeclared}
use Rattle.bq_predeclared.specs.declared.predeclared.Predeclared.TheVariants as p
use Rattle.bq_value.specs.Datum.{Datum}
use Rattle.bq_builtin_machine.specs.State.{State}
use Rattle.bq_builtin_machine.specs.Action.{Action, on_machine}
use Rattle.bq_builtin_machine.specs.Args.{Passed}
pub use Rattle.bq_package_values.specs.Host.{HostCalls}
use Rattle.bq_builtin.specs.Call.{call_function}

-- a host carries out its own functions
unfoldable pub call_built_in : {W : Type 0} → HostCalls W → Predeclared → Passed → Action (State × W) Datum
call_built_in host (p.Host f) args = host.call f args
call_built_in host x args = on_machine (call_function x args)
