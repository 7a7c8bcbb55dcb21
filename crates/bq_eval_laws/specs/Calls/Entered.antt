-- A call of a function, and what it comes to.
use Rattle.std.specs.Prelude.{ℕ, List, Option}
use Rattle.bq_resolve_scope.specs.declared.file.Function.{Function}
use Rattle.bq_value.specs.Datum.{Datum}
use Rattle.bq_builtin_machine.specs.Action.{Run}
use Rattle.bq_builtin_machine.specs.Args.{Passed}
use Rattle.bq_eval_spec.specs.Primitives.{Primitives}
use Rattle.bq_eval_spec.specs.Calls.{TreeUnit, entry, call_function}
use Rattle.bq_eval_spec.specs.Environment.{Scoping}
use Rattle.bq_eval_spec.specs.Trees.{Calls}

-- The function has a module, its place there, and the values of its defaults, whatever names mean. `inner` are the calls that its
-- body may make.
pub record FunctionCall (S R V : Type 0) : Type 0 where
  pub primitives : Primitives S
  pub scoping : Scoping R V
  pub inner : Option (Calls S)
  pub home : ℕ
  pub place : ℕ
  pub unit : TreeUnit R
  pub function : Function
  pub defaults : List Datum
  pub args : Passed

-- the arguments go to the parameters
abbrev pub entered : {S R V : Type 0} → FunctionCall S R V → S → Run S V
entered x s = entry x.primitives x.scoping x.function x.defaults x.args s

-- the function becomes active
abbrev pub activated : {S R V : Type 0} → FunctionCall S R V → S → Run S (Unit {0})
activated x s = x.primitives.enter x.home x.place s

-- the whole call
abbrev pub whole_call : {S R V : Type 0} → FunctionCall S R V → S → Run S Datum
whole_call x s = call_function x.primitives x.scoping x.inner x.home x.place x.unit x.function x.defaults x.args s
