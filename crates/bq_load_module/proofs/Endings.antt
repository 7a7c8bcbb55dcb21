-- What an evaluation ends in, where its run is known.
use Rattle.std.proofs.Common.{◌≡◌, ◌∙◌, List, IfSome, refl, ap}
use Rattle.bq_resolve_scope.specs.declared.file.ResolvedFile.{ResolvedFile}
use Rattle.bq_value.specs.Datum.{Datum}
use Rattle.bq_builtin_machine.specs.Action.{Run, done, stopped}
use Rattle.bq_builtin_machine.specs.State.{State}
use Rattle.bq_eval_spec.specs.Frame.{Frame}
use Rattle.bq_eval.specs.Module.{Ended, ended, kept_after}
use Rattle.bq_package.specs.Calls.{HeldPackage, package_in}
use Rattle.bq_load_module.specs.Run.{module_by, module_after}

ends : (file : ResolvedFile) (values : List Datum) (run : Run (State × HeldPackage) Frame) (held : HeldPackage) → IfSome (kept_after run) (λ kept. held ≡ kept)
    → module_by (ended file values run) (package_in held) ≡ module_after file values run
unfolding module_after
ends file values (done globals s) held h = ap (λ k. module_by (ended file values (done globals s)) (package_in k)) h
ends file values (stopped why) held h = refl

pub ended_is : (file : ResolvedFile) (values : List Datum) (run : Run (State × HeldPackage) Frame) (e : Ended) → e ≡ ended file values run
    → (held : HeldPackage) → IfSome (kept_after run) (λ kept. held ≡ kept) → module_by e (package_in held) ≡ module_after file values run
ended_is file values run e is held h = ap (λ (z : Ended). module_by z (package_in held)) is ∙ ends file values run held h
