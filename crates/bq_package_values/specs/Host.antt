-- What a host makes of calls: of those of its own functions, and of those of rules that .bzl files declare.
use Rattle.std.specs.Prelude.{◌≡◌, ℕ, List, Bool, Result, Ok, Err}
use Rattle.bq_predeclared.specs.declared.host_function.HostFunction.{HostFunction}
use Rattle.bq_base.specs.declared.fault.EvalFault.{EvalFault}
use Rattle.bq_value_datum.specs.Class.{Class}
use Rattle.bq_value_datum.specs.declared.attribute_value.AttributeValue.{AttributeValue}
use Rattle.bq_value.specs.Datum.{Datum}
use Rattle.bq_value.specs.declared.error.EvalErr.{EvalErr}
use Rattle.bq_value.specs.declared.error.EvalErr.TheVariants.{Bad}
use Rattle.bq_builtin_machine.specs.Action.{Action}
use Rattle.bq_builtin_machine.specs.Args.{Passed}
use Rattle.bq_builtin_machine.specs.State.{State}
use Rattle.bq_package_values.specs.declared.written.Written.{Written}

-- the value that a default of an attribute is, as it is written
abbrev pub ReadDefault : Type 0
ReadDefault = Written → Result AttributeValue EvalFault

-- `W` is what it keeps
pub record HostCalls (W : Type 0) : Type 0 where
  -- a call of one of its functions
  pub call : HostFunction → Passed → Action (State × W) Datum
  -- whether a BUILD file is evaluated
  pub in_build : W → Bool
  -- the value of a default: its labels are read in the package of the module that is evaluated (F78, F37)
  pub read_default : W → ReadDefault
  -- a call of a rule of that kind which has these attributes
  pub call_rule : List ℕ → Class → Passed → Action (State × W) Datum

-- after a call that is refused, out of memory aside, what is kept is what was kept before it
abbrev pub KeepsIfRefused : {A W : Type 0} → Result A EvalErr → W → W → Type 0
KeepsIfRefused (Ok x) before after = Unit {0}
KeepsIfRefused (Err e) before after = (kind : EvalFault) → e ≡ Bad kind → after ≡ before
