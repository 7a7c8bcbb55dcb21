-- The package that a file makes is its own, and its statements declare its targets.
use Rattle.std.proofs.Common.{◌≡◌, ◌++◌, ◌∷◌, ℕ, List, [], Option, Some, None, Result, Ok, Err, refl, sym, ap, subst}
use Rattle.std.proofs.lemmas.Option.{none-some}
use Rattle.std.specs.Prelude.{IfOk, option_map}
use Rattle.bq_base.specs.declared.fault.FaultKind.{FaultKind}
use Rattle.bq_base.specs.declared.fault.LoadFault.{LoadFault}
use Rattle.bq_base.specs.declared.fault.Fault.{Fault}
use Rattle.bq_parse_grammar.specs.declared.tree.FileKind.{FileKind}
use Rattle.bq_parse_grammar.specs.declared.tree.FileKind.TheVariants as kinds
use Rattle.bq_label.specs.Label.{LabelParts, package_of}
use Rattle.bq_resolve_scope.specs.declared.file.FileLine.{FileLine}
use Rattle.bq_resolve_scope.specs.declared.file.ResolvedFile.{ResolvedFile}
use Rattle.bq_value.specs.Datum.{Datum}
use Rattle.bq_builtin_machine.specs.Action.{Run, done, stopped}
use Rattle.bq_builtin_machine.specs.State.{State}
use Rattle.bq_eval_spec.specs.Frame.{Frame}
use Rattle.bq_package_target.specs.declared.target.Target.{Target}
use Rattle.bq_package_target.specs.Package.{PackageTargets, no_targets, files, own_labels, finished}
use Rattle.bq_package.specs.Calls.{Declaring, HeldPackage, outside, declaring, package_in}
use Rattle.bq_load_front.specs.Parsed.{kind_of}
use Rattle.bq_load_front.specs.declared.front.Front.{Front}
use Rattle.bq_load.specs.Views.{ModuleView, FailedView}
use Rattle.bq_load.specs.Loading.{LoadingParts}
use Rattle.bq_load.specs.Imports.{imports}
use Rattle.bq_load.specs.Evaluation.{kept_by, evaluation, module_after, loaded_parts, by_imports, file_means, by_front, by_module, means}
use Rattle.bq_load_laws.specs.Packages.Declared.{HasDeclared}
use Rattle.bq_load_laws.specs.Packages.Packages.{IsOwnOf, FilesMakeTheirPackages}
use Rattle.bq_load_laws.proofs.Packages.Keeping.{Left, Goes}
use Rattle.bq_load_laws.proofs.Packages.Lines.{files_are_files}
use Rattle.bq_load_laws.proofs.Packages.Calls.{Held}
use Rattle.bq_load_laws.proofs.Packages.Running.{Ends, build_ends, bzl_ends, left_by}

-- these statements declare the targets of a package
abbrev pub Declares : List FileLine → Option PackageTargets → Type 0
Declares ss None = Unit {0}
Declares ss (Some p) = HasDeclared ss p

-- a package of this label's own, whose targets these statements declare
abbrev pub IsMade : FileKind → LabelParts → List FileLine → ModuleView → Type 0
IsMade k l ss v = IsOwnOf k l v.package × Declares ss v.package

-- the package that a BUILD file begins with
abbrev begun : LoadingParts → LabelParts → Declaring
begun x l = record { place = record { own = package_of l; paths = x.paths; packages = x.packages; rules = x.rules }; «package» = no_targets l }

without_package : (l : LabelParts) (ss : List FileLine) (p : Option PackageTargets) → p ≡ None → IsOwnOf kinds.Bzl l (option_map finished p) × Declares ss (option_map finished p)
without_package l ss None e = (refl, tt)
without_package l ss (Some p) e = absurd (none-some p (sym e))

with_package : (x : LoadingParts) (l : LabelParts) (ss : List FileLine) (kept : HeldPackage) → Ends ss (begun x l) kept
    → IsOwnOf kinds.Build l (option_map finished (package_in kept)) × Declares ss (option_map finished (package_in kept))
unfolding finished
with_package x l ss (outside own packages) h = absurd h
with_package x l ss (declaring d) h =
    let named = d.package.build_file ∷ own_labels (package_of d.package.build_file) d.package.targets in
    let own_files = files 0 d.package.targets named in (
      h.build_file,
      record {
        called = h.new;
        others = own_files;
        targets = ap (λ (ts : List Target). ts ++ own_files) h.targets;
        by_calls = h.by_calls;
        are_files = files_are_files 0 d.package.targets named;
      },
    )

packed : (x : LoadingParts) (l : LabelParts) (ss : List FileLine) (k : FileKind) (kept : HeldPackage) → Goes Held ss (kept_by x l k) kept
    → IsOwnOf k l (option_map finished (package_in kept)) × Declares ss (option_map finished (package_in kept))
packed x l ss kinds.Bzl kept h = without_package l ss (package_in kept) (bzl_ends ss (kept_by x l kinds.Bzl) kept refl h)
packed x l ss kinds.Build kept h = with_package x l ss kept (build_ends ss (begun x l) kept h)

ended_made : (x : LoadingParts) (k : FileKind) (l : LabelParts) (file : ResolvedFile) (values : List Datum) (run : Run (State × HeldPackage) Frame) → Left (Goes Held file.statements (kept_by x l k)) run
    → IfOk (module_after file values run) (IsMade k l file.statements)
unfolding module_after
ended_made x k l file values (done globals s) h = packed x l file.statements k s.1 h
ended_made x k l file values (stopped why) h = tt

pub file_made : (x : LoadingParts) (m : ℕ) (l : LabelParts) (file : ResolvedFile) (modules : List ModuleView) (values : List Datum)
    → IfOk (module_after file values (evaluation x m l file modules values)) (IsMade (kind_of l) l file.statements)
file_made x m l file modules values = ended_made x (kind_of l) l file values (evaluation x m l file modules values) (left_by x m l file modules values)

module _ (k : FileKind) (l : LabelParts) where
  abbrev pub Own : ModuleView → Type 0
  Own v = IsOwnOf k l v.package

  its_own_alone : (ts : List FileLine) (r : Result ModuleView FailedView) → IfOk r (IsMade k l ts) → IfOk r Own
  its_own_alone ts (Ok v) h = h.0
  its_own_alone ts (Err why) h = tt

imported_own : (x : LoadingParts) (m : ℕ) (l : LabelParts) (file : ResolvedFile) (modules : List ModuleView) (values : Result (List Datum) (Fault LoadFault)) → IfOk (by_imports x m l file modules values) (Own (kind_of l) l)
imported_own x m l file modules (Err why) = tt
imported_own x m l file modules (Ok values) =
    its_own_alone (kind_of l) l file.statements (module_after file values (evaluation x m l file modules values)) (file_made x m l file modules values)

file_own : (x : LoadingParts) (m : ℕ) (l : LabelParts) (front : Front) (modules : List ModuleView) → IfOk (file_means x m l front modules) (Own (kind_of l) l)
unfolding file_means
file_own x m l front modules = imported_own x m l front.file modules (imports (loaded_parts x front modules) [] front.file.loads front.loads)

front_own : (x : LoadingParts) (m : ℕ) (l : LabelParts) (modules : List ModuleView) (front : Result Front (Fault FaultKind)) → IfOk (by_front x m l modules front) (Own (kind_of l) l)
front_own x m l modules (Err why) = tt
front_own x m l modules (Ok front) = file_own x m l front modules

pub made : FilesMakeTheirPackages
unfolding means
made x m modules s e = subst (λ o. IfOk (by_module x m modules o) (Own (kind_of s.label) s.label)) (sym e) (front_own x m s.label modules s.front)
