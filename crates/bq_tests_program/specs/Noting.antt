-- A host that notes which calls it accepts: those of its own functions, all but `licenses`, which is F70, as are calls of rules that .bzl
-- files declare. A BUILD file is evaluated, and no default is read.
use Rattle.std.specs.Prelude.{ℕ, List, [], ◌∷◌, ◌++◌, Bool, true, false, Err, if◌then◌else◌}
use Rattle.bq_base.specs.declared.fault.EvalFault.TheVariants.{NotInPackage, BadLabel}
use Rattle.bq_predeclared.specs.declared.host_function.HostFunction.{HostFunction}
use Rattle.bq_predeclared.specs.declared.host_function.HostFunction.TheVariants as h
use Rattle.bq_value_datum.specs.Class.{Class}
use Rattle.bq_value.specs.Datum.{Datum, none}
use Rattle.bq_builtin_machine.specs.Args.{Passed}
use Rattle.bq_builtin_machine.specs.State.{State, stop_at}
use Rattle.bq_builtin_machine.specs.Action.{Action, done, stopped}
use Rattle.bq_package_values.specs.Host.{HostCalls}

-- the function is `licenses`, whose calls this host refuses
abbrev pub is_licenses : HostFunction → Bool
is_licenses h.Licenses = true
is_licenses _ = false

-- F70 for `licenses`; else the function is noted behind the earlier ones, and the call returns None
unfoldable pub noted_call : HostFunction → Passed → Action (State × List HostFunction) Datum
noted_call function passed p = if is_licenses function then stopped (stop_at NotInPackage p.0) else done none (p.0, p.1 ++ function ∷ [])

-- a call of a rule that a .bzl file declares is F70
unfoldable pub noted_rule : List ℕ → Class → Passed → Action (State × List HostFunction) Datum
noted_rule kind class passed p = stopped (stop_at NotInPackage p.0)

-- the host: it keeps the list of the functions that were called, in their order
abbrev pub noted : HostCalls (List HostFunction)
noted = record { call = noted_call; in_build = λ calls. true; read_default = λ calls written. Err BadLabel; call_rule = noted_rule }
