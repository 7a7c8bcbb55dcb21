-- What a module evaluates to, by the modules that it loads: its own fault; else the first symbol that they lack; else what its statements
-- give, run on a fresh machine with all its steps. The host has the package of the file.
use Rattle.std.specs.Prelude.{ℕ, List, [], map, Option, Some, None, Result, Ok, Err, slice_get}
use Rattle.bq_base.specs.declared.fault.FaultKind.{FaultKind}
use Rattle.bq_base.specs.declared.fault.Fault.{Fault}
use Rattle.bq_base.specs.declared.fault.FaultKind.TheVariants as f
use Rattle.bq_base.specs.declared.fault.LoadFault.{LoadFault}
use Rattle.bq_base.specs.Fault.{fault_as, fault_at, kind_of_load}
use Rattle.bq_parse_grammar.specs.declared.tree.FileKind.{FileKind}
use Rattle.bq_parse_grammar.specs.declared.tree.FileKind.TheVariants as kinds
use Rattle.bq_label.specs.Label.{LabelParts, package_of}
use Rattle.bq_label_set.specs.Labels.{with_labels}
use Rattle.bq_resolve_scope.specs.declared.file.ResolvedFile.{ResolvedFile}
use Rattle.bq_value.specs.Datum.{Datum}
use Rattle.bq_builtin_machine.specs.Action.{Run}
use Rattle.bq_builtin_machine.specs.State.{State}
use Rattle.bq_eval_spec.specs.Frame.{Frame}
use Rattle.bq_load_module.specs.ResolvedModule.{ResolvedModule}
use Rattle.bq_load_module.specs.Outcomes.{run_of}
use Rattle.bq_load_module.specs.Module.{module_run}
use Rattle.bq_package_target.specs.Package.{no_targets}
use Rattle.bq_load_module.specs.Calls.{HeldPackage, outside, declaring, meaning}
use Rattle.bq_load_front.specs.Parsed.{kind_of}
pub use Rattle.bq_load_module.specs.Run.{module_with, module_by}
unfoldable pub use Rattle.bq_load_module.specs.Run.{module_after}
use Rattle.bq_load_front.specs.declared.front.Front.{Front}
use Rattle.bq_load_discover.specs.declared.modules.Module.{Module}
use Rattle.bq_load.specs.declared.loading.Loading.{Loading}
use Rattle.bq_load.specs.Views.{ModuleView, FailedView, not_evaluated}
use Rattle.bq_load.specs.ResolvedFiles.{resolved_files}
use Rattle.bq_load.specs.Loading.{LoadingParts, loading_of}
use Rattle.bq_load.specs.Imports.{LoadedParts, imports}

-- ---- a file that is evaluated

-- what the host of a file of this kind keeps at first: for .bzl the packages, for BUILD a package without targets
abbrev pub kept_by : LoadingParts → LabelParts → FileKind → HeldPackage
kept_by x l kinds.Bzl = outside (package_of l) x.packages
kept_by x l kinds.Build = declaring (record { place = record { own = package_of l; paths = x.paths; packages = x.packages; rules = x.rules }; «package» = no_targets l })

-- what the host of a file keeps at first: a BUILD file begins with a package without targets; a .bzl file declares none
abbrev pub kept_first : LoadingParts → LabelParts → HeldPackage
kept_first x l = kept_by x l (kind_of l)

-- the statements of a file run as the module of this number, with these modules loaded and a value for each clause of its loads
unfoldable pub evaluation : LoadingParts → ℕ → LabelParts → ResolvedFile → List ModuleView → List Datum → Run (State × HeldPackage) Frame
evaluation x m l file modules values = module_run x.names meaning (resolved_files x.modules) m file (map (λ v. v.frozen) modules) values x.limit (kept_first x l)

-- the statements of this module's file run, where the host begins as for the file of this label
abbrev pub hosted_run : Loading → LabelParts → ResolvedModule → Run (State × HeldPackage) Frame
hosted_run l label m = run_of l.built_ins meaning m l.limit (kept_first (loading_of l) label)

-- what a file evaluates to as the module of this number, with these modules loaded and a value for each clause of its loads
abbrev pub file_after : LoadingParts → ℕ → LabelParts → ResolvedFile → List ModuleView → List Datum → Result ModuleView FailedView
file_after x m l file modules values = module_after file values (evaluation x m l file modules values)

-- ---- a module

-- what a module loads: the files that its loads name, each once, a module for each, and the resolved files of all modules
abbrev pub loaded_parts : LoadingParts → Front → List ModuleView → LoadedParts
loaded_parts x front modules = record { files = with_labels [] front.loads; modules = modules; resolved = resolved_files x.modules }

-- a file's outcome by the values of its load clauses: the fault of the first bad clause (F33, F34), else what its statements give
abbrev pub by_imports : LoadingParts → ℕ → LabelParts → ResolvedFile → List ModuleView → Result (List Datum) (Fault LoadFault) → Result ModuleView FailedView
by_imports x m l file modules (Err why) = Err (not_evaluated (fault_as kind_of_load why))
by_imports x m l file modules (Ok values) = file_after x m l file modules values

-- the outcome of module m with this label, file and loaded modules: first the values of its load clauses, then its statements
unfoldable pub file_means : LoadingParts → ℕ → LabelParts → Front → List ModuleView → Result ModuleView FailedView
file_means x m l front modules = by_imports x m l front.file modules (imports (loaded_parts x front modules) [] front.file.loads front.loads)

-- the outcome of a module, by what its file is on its own
abbrev pub by_front : LoadingParts → ℕ → LabelParts → List ModuleView → Result Front (Fault FaultKind) → Result ModuleView FailedView
by_front x m l modules (Err why) = Err (not_evaluated why)
by_front x m l modules (Ok front) = file_means x m l front modules

-- no module has a number past the last one; it would be F31
abbrev pub by_module : LoadingParts → ℕ → List ModuleView → Option Module → Result ModuleView FailedView
by_module x m modules None = Err (not_evaluated (fault_at f.NoSuchFile 0))
by_module x m modules (Some s) = by_front x m s.label modules s.front

-- what module m evaluates to, by the modules of the files that its loads name, each once, in the order in which they first name them
unfoldable pub means : LoadingParts → ℕ → List ModuleView → Result ModuleView FailedView
means x m modules = by_module x m modules (slice_get x.modules m)
