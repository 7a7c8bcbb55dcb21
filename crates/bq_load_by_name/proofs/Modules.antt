-- A module evaluates by names to what it evaluates to by slots.
use Rattle.std.proofs.Common.{◌≡◌, ◌∙◌, ℕ, List, [], map, Option, Some, None, Result, Ok, Err, slice_get, option_and_then, refl, sym, ap}
use Rattle.bq_base.specs.declared.fault.FaultKind.{FaultKind}
use Rattle.bq_base.specs.declared.fault.LoadFault.{LoadFault}
use Rattle.bq_base.specs.declared.fault.Fault.{Fault}
use Rattle.bq_parse_grammar.specs.declared.tree.FileKind.{FileKind}
use Rattle.bq_parse_grammar.specs.declared.tree.FileKind.TheVariants as kinds
use Rattle.bq_label.specs.Label.{LabelParts}
use Rattle.bq_label_set.specs.Labels.{with_labels}
use Rattle.bq_resolve_scope.specs.declared.file.ResolvedFile.{ResolvedFile}
use Rattle.bq_resolve_laws.specs.Files.{ResolvesTo}
use Rattle.bq_resolve_laws.specs.Resolution.{Maybe}
use Rattle.bq_resolve_laws.proofs.Loads.{loads_kept}
use Rattle.bq_value.specs.Datum.{Datum}
use Rattle.bq_package.specs.Calls.{meaning, package_in}
use Rattle.bq_load_front.specs.Agreement.{IsFrontOf}
use Rattle.bq_load_front.specs.Parsed.{ParsedFront, kind_of}
use Rattle.bq_load_front.specs.declared.front.Front.{Front}
use Rattle.bq_load_discover.specs.declared.modules.Module.{Module}
use Rattle.bq_eval_by_name.specs.Module.{module_run}
use Rattle.bq_load.specs.Evaluation as slots
use Rattle.bq_load.specs.Evaluation.{module_by}
use Rattle.bq_load.specs.Imports as loads
use Rattle.bq_load.specs.ResolvedFiles.{resolved_files}
use Rattle.bq_load.specs.Loading.{LoadingParts}
use Rattle.bq_load.specs.Views.{ModuleView, not_evaluated}
use Rattle.bq_eval_by_name.proofs.Evaluations.{evaluations_agree}
use Rattle.bq_eval_by_name.proofs.Units.{in_place}
use Rattle.bq_load_by_name.specs.Agreement.{IsReadAs, AreReadAs, with_modules, ModulesAgree}
use Rattle.bq_load_by_name.specs.Evaluation.{kept_first, evaluation, module_after, loaded_parts, file_means, means}
use Rattle.bq_load_by_name.specs.Imports.{imports}
use Rattle.bq_load_by_name.specs.Parsed.{ParsedModule, ParsedParts, parsed_files}
use Rattle.bq_load_by_name.proofs.Cases.{kept_by, by_imports, by_front, by_module}
use Rattle.bq_load_by_name.proofs.Imports.{imports_same}
use Rattle.bq_load_by_name.proofs.Read.{files_read}

module _ (x : LoadingParts) (all : List ParsedModule) (are : AreReadAs all x.modules) where
  abbrev named : ParsedParts
  named = with_modules x all

  abbrev resolved : List (Option ResolvedFile)
  resolved = resolved_files x.modules

  kept_same : (l : LabelParts) (kind : FileKind) → kept_by named l kind ≡ slots.kept_by x l kind
  kept_same l kinds.Bzl = refl
  kept_same l kinds.Build = refl

  module _ (m : ℕ) (l : LabelParts) (parsed : ParsedFront) (front : Front) (is : ResolvesTo parsed.file front.file) (same : front.loads ≡ parsed.loads) where
    run_same : (modules : List ModuleView) (values : List Datum)
        → module_after parsed.file values (evaluation named m l parsed.file modules values) ≡ slots.module_after front.file values (slots.evaluation x m l front.file modules values)
    unfolding module_after slots.module_after evaluation slots.evaluation
    run_same modules values =
        let agree = evaluations_agree x.names meaning (parsed_files all) resolved (files_read all x.modules are) m parsed.file front.file is (map (λ v. v.frozen) modules) values x.limit (kept_first named l) in
        (λ i. module_by (agree.0 i) (option_and_then package_in (agree.1 i)))
        ∙ ap (λ kept. slots.module_after front.file values (module_run x.names meaning resolved m front.file (map (λ v. v.frozen) modules) values x.limit kept)) (kept_same l (kind_of l))

    imports_by : (modules : List ModuleView) (r : Result (List Datum) (Fault LoadFault)) → by_imports named m l parsed.file modules r ≡ slots.by_imports x m l front.file modules r
    imports_by modules (Ok values) = run_same modules values
    imports_by modules (Err why) = refl

    -- what its loads give, where they name these files
    abbrev given : List ModuleView → List LabelParts → Result (List Datum) (Fault LoadFault)
    given modules ls = loads.imports (record { files = with_labels [] ls; modules = modules; resolved = resolved }) [] front.file.loads ls

    file_same : (modules : List ModuleView) → file_means named m l parsed modules ≡ slots.file_means x m l front modules
    unfolding file_means slots.file_means
    file_same modules =
        ap (λ ls. by_imports named m l parsed.file modules (imports (loaded_parts named parsed modules) [] ls parsed.loads)) (sym (loads_kept parsed.file front.file is))
        ∙ ap (by_imports named m l parsed.file modules) (imports_same (parsed_files all) resolved (files_read all x.modules are) (with_labels [] parsed.loads) modules [] front.file.loads parsed.loads)
        ∙ imports_by modules (given modules parsed.loads)
        ∙ ap (λ (ls : List LabelParts). slots.by_imports x m l front.file modules (given modules ls)) (sym same)

  front_same : (m : ℕ) (l : LabelParts) (modules : List ModuleView) (s : Result ParsedFront (Fault FaultKind)) (r : Result Front (Fault FaultKind)) → IsFrontOf s r → by_front named m l modules s ≡ slots.by_front x m l modules r
  front_same m l modules (Err why) (Err told) h = ap (λ (z : Fault FaultKind). Err (not_evaluated z)) (sym h)
  front_same m l modules (Err why) (Ok front) h = absurd h
  front_same m l modules (Ok parsed) (Err told) h = absurd h
  front_same m l modules (Ok parsed) (Ok front) h = file_same m l parsed front h.0 h.1 modules

  module_is : (m : ℕ) (modules : List ModuleView) (s : Option ParsedModule) (t : Option Module) → Maybe IsReadAs s t → by_module named m modules s ≡ slots.by_module x m modules t
  module_is m modules None None h = refl
  module_is m modules None (Some t) h = absurd h
  module_is m modules (Some s) None h = absurd h
  module_is m modules (Some s) (Some t) h = ap (λ (l : LabelParts). by_front named m l modules s.front) (sym h.0) ∙ front_same m t.label modules s.front t.front h.1

  pub means_same : (m : ℕ) (modules : List ModuleView) → means named m modules ≡ slots.means x m modules
  unfolding means slots.means
  means_same m modules = module_is m modules (slice_get all m) (slice_get x.modules m) (in_place IsReadAs all x.modules m are)

pub modules_agree : ModulesAgree
modules_agree x all are m modules = means_same x all are m modules
