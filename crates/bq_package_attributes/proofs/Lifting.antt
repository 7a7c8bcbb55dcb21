-- What is done on a machine alone leaves alone what a host keeps.
use Rattle.std.specs.Prelude.{Result, Ok, Err}
use Rattle.std.proofs.Common.{ap}
use Rattle.bq_value.specs.declared.error.EvalErr.{EvalErr}
use Rattle.bq_builtin_machine.specs.State.{State}
use Rattle.bq_builtin_machine.specs.Action.{Run, Does, HostDoes, beside}

pub lifted : {W A B : Type 0} (view : A → B) (result : Result A EvalErr) (after : State) (run : Run State B) (kept : W) → Does view result after run → HostDoes view result after kept (beside kept run)
lifted view (Ok x) after run kept h = ap (beside kept) h
lifted view (Err e) after run kept h = λ why is. ap (beside kept) (h why is)
