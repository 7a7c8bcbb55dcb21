-- Evaluations end by names in what they end in by slots.
use Rattle.std.proofs.Common.{◌≡◌, ℕ, List, Option, Some, refl, ap, sym, ◌∙◌}
use Rattle.bq_resolve_scope.specs.declared.file.ResolvedFile.{ResolvedFile}
use Rattle.bq_resolve_scope.specs.Names.{Name, place_among, global_names}
use Rattle.bq_value.specs.Cells.{FrozenView, frozen}
use Rattle.bq_value.specs.Datum.{Datum}
use Rattle.bq_builtin_machine.specs.Action.{Run, done, stopped}
use Rattle.bq_builtin_machine.specs.State.{State, started}
use Rattle.bq_eval_spec.specs.Frame.{Frame}
use Rattle.bq_eval_spec.specs.Slots as slots
use Rattle.bq_eval_by_name.specs.Alike.{Alike}
use Rattle.bq_eval_by_name.specs.Shows.{Reads}
use Rattle.bq_eval_spec.specs.Names.{Env}
use Rattle.bq_eval_by_name.proofs.ModuleAgreement.{module_alike}
use Rattle.bq_eval.specs.Calling.{HostCalls}
use Rattle.bq_eval.specs.Runtime.{primitives}
use Rattle.bq_eval.specs.Module as by_slots
use Rattle.bq_eval.specs.Module.{Ended, evaluated, failed, first_store, fault_of}
use Rattle.bq_resolve_laws.specs.Files.{ParsedFile, ResolvesTo}
use Rattle.bq_resolve_laws.proofs.Loads.{globals_kept}
use Rattle.bq_eval_by_name.specs.EvaluationAgreement.{AllResolveTo, EvaluationsAgree}
use Rattle.bq_eval_by_name.specs.Evaluation.{frozen_units, frozen_values, ended, kept_after, module_run}
use Rattle.bq_eval_by_name.proofs.Units.{units_agree}
use Rattle.bq_eval_by_name.proofs.Values.{frozen_same}

module _ {W : Type 0} (file : ParsedFile) (resolved_file : ResolvedFile) (imports : List Datum) (globals : resolved_file.globals ≡ global_names file.statements) where
  abbrev Ends : Run (State × W) Env → Run (State × W) Frame → Type 0
  Ends = Alike (Reads (λ name. place_among name (global_names file.statements)))

  ends_same : (p : Run (State × W) Env) (q : Run (State × W) Frame) → Ends p q → ended file imports p ≡ by_slots.ended resolved_file imports q
  ends_same (done env s) (done frame t) h =
      ap (λ w. evaluated (frozen w.0.store (global_names file.statements) (frozen_values file imports env)) w.0.prints) h.0
      ∙ (ap (λ vs. evaluated (frozen t.0.store (global_names file.statements) vs) t.0.prints) (frozen_same file resolved_file globals imports env frame h.1)
      ∙ ap (λ names. evaluated (frozen t.0.store names (by_slots.frozen_values resolved_file imports frame)) t.0.prints) (sym globals))
  ends_same (done env s) (stopped why) h = absurd h
  ends_same (stopped because) (done frame t) h = absurd h
  ends_same (stopped because) (stopped why) h = ap (λ w. failed (fault_of w) w.prints) h

  kept_same : (p : Run (State × W) Env) (q : Run (State × W) Frame) → Ends p q → kept_after p ≡ by_slots.kept_after q
  kept_same (done env s) (done frame t) h = ap (λ w. Some w.1) h.0
  kept_same (done env s) (stopped why) h = absurd h
  kept_same (stopped because) (done frame t) h = absurd h
  kept_same (stopped because) (stopped why) h = refl

module _ {W : Type 0} (rules : List Name) (host : HostCalls W) where
  runs_alike : (files : List (Option ParsedFile)) (resolved_files : List (Option ResolvedFile)) → AllResolveTo files resolved_files → (number : ℕ) (file : ParsedFile) (resolved_file : ResolvedFile) → ResolvesTo file resolved_file
      → (loaded : List FrozenView) (imports : List Datum) (limit : ℕ) (kept : W)
      → Alike (Reads (λ name. place_among name (global_names file.statements))) (module_run rules host files number file loaded imports limit kept) (by_slots.module_run rules host resolved_files number resolved_file loaded imports limit kept)
  unfolding module_run by_slots.module_run
  runs_alike files resolved_files are number file resolved_file is loaded imports limit kept =
      module_alike file.universe file.statements resolved_file is.names (primitives rules host) (frozen_units files loaded) (slots.frozen_units resolved_files loaded) (units_agree files resolved_files are loaded)
      number imports (started (first_store number loaded) limit, kept)

  pub evaluations_agree : EvaluationsAgree rules host
  evaluations_agree files resolved_files are number file resolved_file is loaded imports limit kept =
      let p = module_run rules host files number file loaded imports limit kept in
      let q = by_slots.module_run rules host resolved_files number resolved_file loaded imports limit kept in
      let alike = runs_alike files resolved_files are number file resolved_file is loaded imports limit kept in (
        ends_same file resolved_file imports (globals_kept file resolved_file is) p q alike,
        kept_same file resolved_file imports (globals_kept file resolved_file is) p q alike,
      )
