-- A module evaluates as before.
use Rattle.std.proofs.Common.{◌≡◌, ◌∙◌, ◌==◌, ◌||◌, inl, inr, ℕ, zero, suc, Bool, true, false, List, [], ◌∷◌, map, Option, Some, None, IsSome, Result, Ok, Err, Contains, slice_get, option_map, refl, sym, ap, subst, eq-eqb}
use Rattle.std.proofs.lemmas.Option.{slice_get-map}
use Rattle.bq_base.specs.declared.fault.Fault.{Fault}
use Rattle.bq_base.specs.declared.fault.FaultKind.{FaultKind}
use Rattle.bq_base.specs.declared.fault.LoadFault.{LoadFault}
use Rattle.bq_label.specs.declared.packages.BuildFile.{BuildFile}
use Rattle.bq_label.specs.Label.{LabelParts, package_of}
use Rattle.bq_label.proofs.Orders.{at_head, in_tail, head_or_tail}
use Rattle.bq_label_set.proofs.Added.{none_in}
use Rattle.bq_label_set.specs.Labels.{with_labels}
use Rattle.bq_resolve_scope.specs.declared.file.ResolvedFile.{ResolvedFile}
use Rattle.bq_value.specs.Cells.{FrozenView, globals_at}
use Rattle.bq_value.specs.Datum.{Datum}
use Rattle.bq_board.specs.Graph.{row}
use Rattle.bq_eval_laws.proofs.Evaluations.Callable.{has, has_first, has_globals, among}
use Rattle.bq_package.specs.Calls.{HeldPackage, outside, declaring, meaning}
use Rattle.bq_package.specs.Place.{PlaceView}
use Rattle.bq_package_target.specs.Package.{no_targets}
use Rattle.bq_parse_grammar.specs.declared.tree.FileKind.{FileKind}
use Rattle.bq_parse_grammar.specs.declared.tree.FileKind.TheVariants as kinds
use Rattle.bq_eval.specs.Module.{module_run}
use Rattle.bq_load_front.specs.declared.front.Front.{Front}
use Rattle.bq_load_front.specs.Parsed.{kind_of}
use Rattle.bq_load_discover.specs.declared.modules.Module.{Module}
use Rattle.bq_load_order.specs.Outcome.{outcome}
use Rattle.bq_load.specs.Evaluation.{kept_by, kept_first, evaluation, module_after, loaded_parts, by_imports, file_means, by_front, by_module, means}
use Rattle.bq_load.specs.Imports.{imports}
use Rattle.bq_load.specs.ResolvedFiles.{loaded_file, resolved_files}
use Rattle.bq_load.specs.Loading.{LoadingParts}
use Rattle.bq_load.specs.Views.{ModuleView, FailedView}
use Rattle.bq_load_laws.specs.Evaluations.{AgreeOn}
use Rattle.bq_load_laws.specs.ChangedOutcomes.{BeginsAlike, UnchangedModulesEvaluateAlike}
use Rattle.bq_load_laws.proofs.Globbed.{comes_alike, globs_alike}
use Rattle.bq_load_laws.proofs.Seen.{same_run}
use Rattle.bq_load_laws.proofs.Imports.{HasSameFile, imports_same}
use Rattle.bq_load_laws.proofs.Reached.{frozen_of, through, reaches}

-- ---- a module reaches itself

first_true : (a b : Bool) → a ≡ true → (a || b) ≡ true
first_true true b h = refl
first_true false b h = absurd (cc)

itself : (f : FrozenView) → IsSome (globals_at f f.own)
itself f = has_globals f.own f ∙ has_first f.own (f.own, f.cells) f.reached ∙ first_true (f.own == f.own) (has f.own f.reached) (eq-eqb f.own f.own refl)

is_among : (v : ModuleView) (vs : List ModuleView) → Contains vs v → Contains (map frozen_of vs) v.frozen
is_among v [] c = absurd (none_in v c)
is_among v (w ∷ ws) c = elim (head_or_tail w ws v c) [
  | inl same ↦ subst (λ (z : ModuleView). Contains (map frozen_of (w ∷ ws)) z.frozen) same (at_head w.frozen (map frozen_of ws))
  | inr later ↦ in_tail w.frozen (map frozen_of ws) v.frozen (is_among v ws later)
]

-- ---- by the modules that it loads

module _ (x y : LoadingParts) (m : ℕ) (modules : List ModuleView) (names : y.names ≡ x.names) (limit : y.limit ≡ x.limit) (agree : AgreeOn (map frozen_of modules) (resolved_files y.modules) (resolved_files x.modules)) where
  abbrev run_of : LabelParts → ResolvedFile → List Datum → HeldPackage → Result ModuleView FailedView
  run_of l file imported w = module_after file imported (module_run x.names meaning (resolved_files x.modules) m file (map frozen_of modules) imported x.limit w)

  -- what a host begins with counts only so far
  host_same : (l : LabelParts) (k : FileKind) → BeginsAlike x y l k → (file : ResolvedFile) (imported : List Datum) → run_of l file imported (kept_by y l k) ≡ run_of l file imported (kept_by x l k)
  host_same l kinds.Bzl begins file imported = ap (λ (bs : List BuildFile). run_of l file imported (outside (package_of l) bs)) begins
  host_same l kinds.Build begins file imported =
      let place : PlaceView = record { own = package_of l; paths = x.paths; packages = x.packages; rules = x.rules } in
      let bs = begins.0 in
      let rs = begins.1 in
      (λ i. run_of l file imported (declaring (record { place = record { own = package_of l; paths = y.paths; packages = bs i; rules = rs i }; «package» = no_targets l })))
      ∙ comes_alike y.paths x.names (resolved_files x.modules) m file (map frozen_of modules) imported x.limit (kept_by x l kinds.Build) (globs_alike y.paths place begins.2)

  run_same : (l : LabelParts) (file : ResolvedFile) (imported : List Datum) → BeginsAlike x y l (kind_of l) → module_after file imported (evaluation y m l file modules imported) ≡ module_after file imported (evaluation x m l file modules imported)
  unfolding evaluation
  run_same l file imported begins =
      ap (module_after file imported) ((λ i. module_run (names i) meaning (resolved_files y.modules) m file (map frozen_of modules) imported (limit i) (kept_first y l))
      ∙ same_run x.names meaning (map frozen_of modules) (resolved_files y.modules) (resolved_files x.modules) agree m file imported x.limit (kept_first y l))
      ∙ host_same l (kind_of l) begins file imported

  by_symbols : (l : LabelParts) (file : ResolvedFile) (r : Result (List Datum) (Fault LoadFault)) → BeginsAlike x y l (kind_of l) → by_imports y m l file modules r ≡ by_imports x m l file modules r
  by_symbols l file (Err why) begins = refl
  by_symbols l file (Ok imported) begins = run_same l file imported begins

  same_files : (v : ModuleView) → Contains modules v → HasSameFile (resolved_files y.modules) (resolved_files x.modules) v
  same_files v c = agree v.frozen.own (among v.frozen.own v.frozen (itself v.frozen) (map frozen_of modules) (is_among v modules c))

  file_same : (l : LabelParts) (front : Front) → BeginsAlike x y l (kind_of l) → file_means y m l front modules ≡ file_means x m l front modules
  unfolding file_means
  file_same l front host =
      ap (λ (r : Result (List Datum) (Fault LoadFault)). by_imports y m l front.file modules r) (imports_same (resolved_files y.modules) (resolved_files x.modules) (with_labels [] front.loads) modules same_files [] front.file.loads front.loads)
      ∙ by_symbols l front.file (imports (loaded_parts x front modules) [] front.file.loads front.loads) host

  front_same : (l : LabelParts) (r : Result Front (Fault FaultKind)) → BeginsAlike x y l (kind_of l) → by_front y m l modules r ≡ by_front x m l modules r
  front_same l (Err why) host = refl
  front_same l (Ok front) host = file_same l front host

  module_same : (o : Option Module) → ((s : Module) → o ≡ Some s → BeginsAlike x y s.label (kind_of s.label)) → by_module y m modules o ≡ by_module x m modules o
  module_same None host = refl
  module_same (Some s) host = front_same s.label s.front (host s refl)

  means_same : slice_get y.modules m ≡ slice_get x.modules m → ((s : Module) → slice_get x.modules m ≡ Some s → BeginsAlike x y s.label (kind_of s.label)) → means y m modules ≡ means x m modules
  unfolding means
  means_same read host = ap (by_module y m modules) read ∙ module_same (slice_get x.modules m) host

-- ---- by what loads lead to

file_at : (ms : List Module) (n : ℕ) → slice_get (resolved_files ms) n ≡ option_map (λ (s : Module). loaded_file s) (slice_get ms n)
file_at ms n = slice_get-map (λ (s : Module). loaded_file s) ms n

pub unchanged_evaluate_alike : UnchangedModulesEvaluateAlike
unchanged_evaluate_alike x y p m same modules loaded =
    let agree : AgreeOn (map frozen_of modules) (resolved_files y.modules) (resolved_files x.modules) =
    λ n h.
    let t = through (outcome (means x) p) n (row p m) modules loaded h in
    let path = reaches x p t.load t.value t.is n t.reaches in
    let read = same.read n (suc path.0, (t.load, t.among, path.1)) in
    file_at y.modules n ∙ ap (option_map (λ (s : Module). loaded_file s)) read ∙ sym (file_at x.modules n) in
    means_same x y m modules same.names same.limit agree (same.read m (zero, refl)) same.host
