-- What stays of what a module printed.
use Rattle.std.specs.Prelude.{◌≡◌, ℕ, List}
use Rattle.std.specs.List.{flat_map}
use Rattle.bq_label.specs.Label.{LabelParts, full_form}
use Rattle.bq_builtin_machine.specs.Action.{Run, done, stopped}
use Rattle.bq_builtin_machine.specs.State.{State}
use Rattle.bq_eval_spec.specs.Frame.{Frame}
use Rattle.bq_package.specs.Calls.{HeldPackage}
use Rattle.bq_resolve_scope.specs.declared.file.ResolvedFile.{ResolvedFile}
use Rattle.bq_value.specs.Datum.{Datum}
use Rattle.bq_load.specs.Evaluation.{module_after}
use Rattle.bq_load.specs.Loaded.{print_line, prints_of}

-- what was printed when a run ended, by itself or with a fault
abbrev pub printed : Run (State × HeldPackage) Frame → List (List ℕ)
printed (done globals s) = s.0.prints
printed (stopped why) = why.prints

-- a module's lines are all that its run printed, also where it failed then
abbrev pub PrintsAreKept : Type 0
PrintsAreKept =
    (l : LabelParts) (file : ResolvedFile) (values : List Datum) (run : Run (State × HeldPackage) Frame)
    → prints_of (record { label = l; result = module_after file values run }) ≡ flat_map (print_line (full_form l)) (printed run)
