-- What a file ends in, where its run is known.
use Rattle.std.specs.Prelude.{Result, Ok, Err}
use Rattle.std.proofs.Common.{◌≡◌, ◌∙◌, List, Some, ap}
use Rattle.bq_value.specs.declared.error.EvalErr.{EvalErr}
use Rattle.bq_eval_spec.specs.Primitives.{Primitives}
use Rattle.bq_eval_rules.specs.Acts.{Acts}
use Rattle.bq_resolve_scope.specs.declared.file.ResolvedFile.{ResolvedFile}
use Rattle.bq_value.specs.Cells.{frozen}
use Rattle.bq_value.specs.Datum.{Datum}
use Rattle.bq_builtin_machine.specs.Action.{Run, done, stopped, HostDoes}
use Rattle.bq_builtin_machine.specs.State.{State, Stop, stop_at}
use Rattle.bq_eval_spec.specs.Frame.{Frame}
use Rattle.bq_eval.specs.Module.{evaluated, failed, fault_of, frozen_values, ended, kept_after}

pub ended_done : {W : Type 0} (file : ResolvedFile) (imports : List Datum) (run : Run (State × W) Frame) (globals : Frame) (s : State × W) → run ≡ done globals s
    → ended file imports run ≡ evaluated (frozen s.0.store file.globals (frozen_values file imports globals)) s.0.prints
ended_done file imports run globals s h = ap (ended file imports) h

pub ended_stopped : {W : Type 0} (file : ResolvedFile) (imports : List Datum) (run : Run (State × W) Frame) (why : Stop) → run ≡ stopped why → ended file imports run ≡ failed (fault_of why) why.prints
ended_stopped file imports run why h = ap (ended file imports) h

pub kept_done : {W : Type 0} (run : Run (State × W) Frame) (globals : Frame) (s : State × W) → run ≡ done globals s → kept_after run ≡ Some s.1
kept_done run globals s h = ap kept_after h

-- what is done to a state that has the machine's first
pub host_does : {W A B : Type 0} (m : Primitives (State × W)) → ((s : State × W) → m.machine s ≡ s.0) → (view : A → B) (result : Result A EvalErr) (machine : State) (kept : W) (run : Run (State × W) B)
    → Acts m view result (machine, kept) run → HostDoes view result machine kept run
host_does m first view (Ok x) machine kept run h = h
host_does m first view (Err e) machine kept run h = λ why is. h why is ∙ ap (λ s. stopped (stop_at why s)) (first (machine, kept))
