-- Along loads each module can call the functions of those that it loads, of those that these load, and so on.
use Rattle.std.proofs.Common.{◌≡◌, ◌∙◌, ℕ, zero, suc, inl, inr, List, [], ◌∷◌, map, Option, Some, None, Result, Ok, Err, slice_get, option_map, Contains, refl, sym, ap, subst}
use Rattle.std.specs.Prelude.{IfOk, option_and_then}
use Rattle.bq_base.specs.declared.fault.FaultKind.{FaultKind}
use Rattle.bq_base.specs.declared.fault.LoadFault.{LoadFault}
use Rattle.bq_base.specs.declared.fault.Fault.{Fault}
use Rattle.bq_parse_grammar.specs.declared.tree.FileKind.TheVariants as kinds
use Rattle.bq_label.specs.Label.{LabelParts}
use Rattle.bq_label.proofs.Orders.{at_head, in_tail, head_or_tail}
use Rattle.bq_label_set.proofs.Added.{none_in}
use Rattle.bq_resolve_scope.specs.declared.file.ResolvedFile.{ResolvedFile}
use Rattle.bq_value.specs.Cells.{FrozenView}
use Rattle.bq_value.specs.Datum.{Datum}
use Rattle.bq_board.specs.Cycles.{PathTo}
use Rattle.bq_board.specs.Graph.{row}
use Rattle.bq_eval.specs.Module.{Ended, evaluated, failed, ended, module_run, kept_after}
use Rattle.bq_eval_laws.specs.Evaluations.Callable.{IsCallable}
use Rattle.bq_eval_laws.specs.Evaluations.Files.{FrozenAre}
use Rattle.bq_eval_laws.proofs.Evaluations.Callable.{stay_callable}
use Rattle.bq_package.specs.Calls.{meaning, package_in}
use Rattle.bq_eval_laws.proofs.BuildFiles.Calls.{calls_own}
use Rattle.bq_package_target.specs.Package.{PackageTargets, finished}
use Rattle.bq_load_front.specs.Parsed.{kind_of}
use Rattle.bq_load_front.specs.Inputs.{InputParts}
use Rattle.bq_load_front.specs.declared.front.Front.{Front}
use Rattle.bq_load_discover.specs.LoadGraph.{GraphParts, IsReadGraph, inputs_of}
use Rattle.bq_load_discover.specs.Module.{module_of}
use Rattle.bq_load_order.specs.Outcome.{outcome}
use Rattle.bq_load_discover.specs.declared.modules.Module.{Module}
use Rattle.bq_load.specs.Evaluation.{kept_first, evaluation, module_with, module_by, module_after, loaded_parts, by_imports, file_means, by_front, by_module, means}
use Rattle.bq_load.specs.Imports.{imports}
use Rattle.bq_load.specs.ResolvedFiles.{front_file, resolved_files}
use Rattle.bq_load.specs.Loading.{LoadingParts, loading_in}
use Rattle.bq_load.specs.Views.{ModuleView, FailedView}
use Rattle.bq_load_laws.specs.Packages.Packages.{IsOwnOf}
use Rattle.bq_load_laws.proofs.Packages.Made.{made}
use Rattle.bq_load_laws.specs.Calls.Calls.{AreLoaded, FunctionsOfLoadsAreCallable}
use Rattle.bq_load_laws.proofs.Calls.Files.{loaded_is_bzl}
use Rattle.bq_load_laws.proofs.Calls.Values.{all_have, evaluated_by}
use Rattle.bq_load_laws.proofs.Outcomes.Read.{module_at, file_at}

abbrev good : ModuleView → Result ModuleView FailedView
good v = Ok v

one_view : (v w : ModuleView) → good v ≡ good w → v ≡ w
one_view v w e = cc

has_package : (q : PackageTargets) → Some q ≡ None → ⊥
has_package q e = cc

abbrev frozen_of : ModuleView → FrozenView
frozen_of v = v.frozen

is_among : (v : ModuleView) (vs : List ModuleView) → Contains vs v → Contains (map frozen_of vs) v.frozen
is_among v [] c = absurd (none_in v c)
is_among v (w ∷ ws) c = elim (head_or_tail w ws v c) [
  | inl same ↦ subst (λ (z : ModuleView). Contains (map frozen_of (w ∷ ws)) z.frozen) same (at_head w.frozen (map frozen_of ws))
  | inr later ↦ in_tail w.frozen (map frozen_of ws) v.frozen (is_among v ws later)
]

-- ---- what a .bzl file is frozen to is what its run ended with

module _ (x : LoadingParts) (k : ℕ) (home : ℕ) where
  -- whoever loads it can call the functions of `home`
  abbrev ForLoaders : FrozenView → Type 0
  ForLoaders f = (loader : ℕ) (others : List FrozenView) → Contains others f → IsCallable (resolved_files x.modules) loader others home

  by_end : (e : Ended) (p : Option PackageTargets) (v : ModuleView) → FrozenAre e ForLoaders → module_by e p ≡ Ok v → v.package ≡ None → ForLoaders v.frozen
  by_end (failed why prints) p v h is none = absurd (cc)
  by_end (evaluated f prints) p v h is none = by_package (option_map finished p) refl
    where
      by_package : (q : Option PackageTargets) → option_map finished p ≡ q → ForLoaders v.frozen
      by_package None e =
          let same : good (module_with f prints None) ≡ good v = ap (λ (z : Option PackageTargets). good (module_with f prints z)) (sym e) ∙ is in
          subst (λ (z : ModuleView). ForLoaders z.frozen) (one_view (module_with f prints None) v same) h
      by_package (Some q) e =
          let same : good (module_with f prints (Some q)) ≡ good v = ap (λ (z : Option PackageTargets). good (module_with f prints z)) (sym e) ∙ is in
          absurd (has_package q (ap (λ (z : ModuleView). z.package) (one_view (module_with f prints (Some q)) v same) ∙ none))

  -- ---- a module by its file

  module _ (modules : List ModuleView) (v : ModuleView) (callable : IsCallable (resolved_files x.modules) k (map frozen_of modules) home) (none : v.package ≡ None) where
    by_run : (l : LabelParts) (file : ResolvedFile) → slice_get (resolved_files x.modules) k ≡ Some (Some file) → (imported : List Datum) → module_after file imported (evaluation x k l file modules imported) ≡ Ok v → ForLoaders v.frozen
    unfolding module_after evaluation
    by_run l file at imported is =
        by_end (ended file imported (module_run x.names meaning (resolved_files x.modules) k file (map frozen_of modules) imported x.limit (kept_first x l)))
        (option_and_then package_in (kept_after (module_run x.names meaning (resolved_files x.modules) k file (map frozen_of modules) imported x.limit (kept_first x l)))) v
        (stay_callable x.names meaning calls_own (resolved_files x.modules) k file at (map frozen_of modules) imported (kept_first x l) x.limit home callable) is none

    by_values : (l : LabelParts) (file : ResolvedFile) → slice_get (resolved_files x.modules) k ≡ Some (Some file) → (r : Result (List Datum) (Fault LoadFault)) → by_imports x k l file modules r ≡ Ok v → ForLoaders v.frozen
    by_values l file at (Err why) is = absurd (cc)
    by_values l file at (Ok imported) is = by_run l file at imported is

    of_front : (l : LabelParts) (r : Result Front (Fault FaultKind)) → slice_get (resolved_files x.modules) k ≡ Some (front_file r) → by_front x k l modules r ≡ Ok v → ForLoaders v.frozen
    unfolding file_means
    of_front l (Err why) at is = absurd (cc)
    of_front l (Ok front) at is = by_values l front.file at (imports (loaded_parts x front modules) [] front.file.loads front.loads) is

    of_module : (s : Module) → slice_get x.modules k ≡ Some s → slice_get (resolved_files x.modules) k ≡ Some (front_file s.front) → means x k modules ≡ Ok v → ForLoaders v.frozen
    unfolding means
    of_module s at there is = of_front s.label s.front there (ap (by_module x k modules) (sym at) ∙ is)

-- a .bzl file has no package
module _ (x : LoadingParts) (k : ℕ) (modules : List ModuleView) (v : ModuleView) (is : means x k modules ≡ Ok v) (s : Module) (at : slice_get x.modules k ≡ Some s) where
  its_own : IsOwnOf (kind_of s.label) s.label v.package
  its_own = subst (λ z. IfOk z (λ w. IsOwnOf (kind_of s.label) s.label w.package)) is (made x k modules s at)

  has_none : kind_of s.label ≡ kinds.Bzl → v.package ≡ None
  has_none bzl = subst (λ kind. IsOwnOf kind s.label v.package) bzl its_own

-- ---- paths

module _ (inputs : InputParts) (g : GraphParts) (is : IsReadGraph inputs g) (x : LoadingParts) (read : x.modules ≡ map (module_of inputs) g.labels) (home : ℕ) where
  along : (n m : ℕ) (l : LabelParts) → slice_get g.labels m ≡ Some l → (modules : List ModuleView) → AreLoaded x g.edges m modules → PathTo g.edges n m home → IsCallable (resolved_files x.modules) m (map frozen_of modules) home
  along zero m l at modules loaded same = inl (sym same)
  along (suc n) m l at modules loaded path =
      let k = path.0 in
      let has = all_have (outcome (means x) g.edges) (row g.edges m) modules loaded k path.1 in
      let by = evaluated_by (means x) g.edges k has.value has.has in
      let file = loaded_is_bzl inputs g is m l at k path.1 in
      let before = along n k file.label file.at by.loaded by.are path.2 in
      let there = module_at inputs x g.labels read k file.label file.at in
      let none = has_none x k by.loaded has.value by.gives (module_of inputs file.label) there file.bzl in
      of_module x k home by.loaded has.value before none (module_of inputs file.label) there (file_at inputs x g.labels read k file.label file.at file.bzl) by.gives m (map frozen_of modules) (is_among has.value modules has.among)

pub callable_along_loads : FunctionsOfLoadsAreCallable
callable_along_loads files rules limit g is m home l modules at loaded reaches =
    along (inputs_of files rules) g is (loading_in files rules limit g) is.read home reaches.0 m l at modules loaded reaches.1
