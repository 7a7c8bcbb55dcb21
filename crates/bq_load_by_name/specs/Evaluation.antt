-- What a module evaluates to by names, by the modules that it loads: its own fault; else the first symbol that they lack; else what its
-- statements give, run on a fresh machine with all its steps.
use Rattle.std.specs.Prelude.{ℕ, List, [], map, Some, None, Result, Ok, Err, slice_get, option_and_then}
use Rattle.bq_base.specs.declared.fault.FaultKind.TheVariants as f
use Rattle.bq_base.specs.Fault.{fault_as, fault_at, kind_of_load}
use Rattle.bq_parse_grammar.specs.declared.tree.FileKind.TheVariants as kinds
use Rattle.bq_label.specs.Label.{LabelParts, package_of}
use Rattle.bq_label_set.specs.Labels.{with_labels}
use Rattle.bq_resolve_laws.specs.Files.{ParsedFile}
use Rattle.bq_resolve_laws.specs.Loads.{file_loads}
use Rattle.bq_value.specs.Datum.{Datum}
use Rattle.bq_builtin_machine.specs.Action.{Run}
use Rattle.bq_builtin_machine.specs.State.{State}
use Rattle.bq_package_target.specs.Package.{no_targets}
use Rattle.bq_package.specs.Calls.{HeldPackage, outside, declaring, meaning, package_in}
use Rattle.bq_load_front.specs.Parsed.{ParsedFront, kind_of}
use Rattle.bq_load.specs.Views.{ModuleView, FailedView, not_evaluated}
use Rattle.bq_load.specs.Evaluation.{module_by}
use Rattle.bq_eval_spec.specs.Names.{Env}
use Rattle.bq_eval_by_name.specs.Evaluation.{ended, kept_after, module_run}
use Rattle.bq_load_by_name.specs.Imports.{LoadedParts, imports}
use Rattle.bq_load_by_name.specs.Parsed.{ParsedParts, parsed_files}

-- ---- a file that is evaluated

-- what the host of a file keeps at first: a BUILD file begins with a package without targets; a .bzl file declares none
abbrev pub kept_first : ParsedParts → LabelParts → HeldPackage
kept_first x l = elim (kind_of l) [
  | kinds.Bzl ↦ outside (package_of l) x.packages
  | kinds.Build ↦
      declaring (record { place = record { own = package_of l; paths = x.paths; packages = x.packages; rules = x.rules }; «package» = no_targets l })
]

-- the statements of a file run as the module of this number, with these modules loaded and a value for each clause of its loads
unfoldable pub evaluation : ParsedParts → ℕ → LabelParts → ParsedFile → List ModuleView → List Datum → Run (State × HeldPackage) Env
evaluation x m l file modules values = module_run x.names meaning (parsed_files x.modules) m file (map (λ v. v.frozen) modules) values x.limit (kept_first x l)

-- what an evaluation ends in, and the package that is kept then
unfoldable pub module_after : ParsedFile → List Datum → Run (State × HeldPackage) Env → Result ModuleView FailedView
module_after file values run = module_by (ended file values run) (option_and_then package_in (kept_after run))

-- ---- a module

-- what the loads of a module are resolved among
abbrev pub loaded_parts : ParsedParts → ParsedFront → List ModuleView → LoadedParts
loaded_parts x front modules = record { files = with_labels [] front.loads; modules = modules; parsed = parsed_files x.modules }

-- the outcome of a file, over those of the modules before it; a symbol that they lack is its fault
unfoldable pub file_means : ParsedParts → ℕ → LabelParts → ParsedFront → List ModuleView → Result ModuleView FailedView
file_means x m l front modules = elim (imports (loaded_parts x front modules) [] (file_loads front.file.statements) front.loads) [
  | Err why ↦ Err (not_evaluated (fault_as kind_of_load why))
  | Ok values ↦ module_after front.file values (evaluation x m l front.file modules values)
]

-- What module m evaluates to, by the modules of the files that its loads name, each once, in the order in which they first name them. No
-- module has a number past the last one; it would be F31.
unfoldable pub means : ParsedParts → ℕ → List ModuleView → Result ModuleView FailedView
means x m modules = elim (slice_get x.modules m) [
  | None ↦ Err (not_evaluated (fault_at f.NoSuchFile 0))
  | Some s ↦ elim s.front [ Err why ↦ Err (not_evaluated why) | Ok front ↦ file_means x m s.label front modules ]
]
