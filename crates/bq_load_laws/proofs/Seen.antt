-- An evaluation sees the files of the modules that its loads reach.
use Rattle.std.proofs.Common.{◌≡◌, ◌∙◌, List, Option, Some, None, IsSome, slice_get, refl, sym, ap}
use Rattle.std.proofs.Math.Path.{fun_ext}
use Rattle.bq_resolve_scope.specs.declared.file.ResolvedFile.{ResolvedFile}
use Rattle.bq_value.specs.Cells.{FrozenView}
use Rattle.bq_value.specs.Datum.{Datum}
use Rattle.bq_builtin_machine.specs.State.{started}
use Rattle.bq_eval_spec.specs.Slots.{frozen_unit, globals_among, frozen_units, module_meaning}
use Rattle.bq_eval.specs.Runtime.{primitives}
use Rattle.bq_eval.specs.Module.{first_store, module_run}
use Rattle.bq_load_laws.specs.Evaluations.{AgreeOn, EvaluationsSeeWhatIsReached}

-- what isn't reached has no unit, whatever its file is
no_unit : (x : Option (Option ResolvedFile)) → frozen_unit x None ≡ None
no_unit None = refl
no_unit (Some None) = refl
no_unit (Some (Some file)) = refl

by_globals : (x y : Option (Option ResolvedFile)) (o : Option (List Datum)) → (IsSome o → x ≡ y) → frozen_unit x o ≡ frozen_unit y o
by_globals x y None h = no_unit x ∙ sym (no_unit y)
by_globals x y (Some values) h = ap (λ (z : Option (Option ResolvedFile)). frozen_unit z (Some values)) (h refl)

same_units : (loaded : List FrozenView) (files others : List (Option ResolvedFile)) → AgreeOn loaded files others → frozen_units files loaded ≡ frozen_units others loaded
unfolding frozen_units
same_units loaded files others agree = fun_ext (λ n. by_globals (slice_get files n) (slice_get others n) (globals_among n loaded) (agree n))

pub same_run : {W : Type 0} → EvaluationsSeeWhatIsReached W
unfolding module_run
same_run names host loaded files others agree number file imports limit kept =
    ap (λ units. module_meaning (primitives names host) units number file imports (started (first_store number loaded) limit, kept)) (same_units loaded files others agree)
