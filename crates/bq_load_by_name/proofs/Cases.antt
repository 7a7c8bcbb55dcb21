-- Parts of definitions, as words that proofs name.
use Rattle.std.specs.Prelude.{ℕ, List, [], Option, Some, None, Result, Ok, Err}
use Rattle.bq_base.specs.Fault.{fault_as, fault_at, kind_of_load}
use Rattle.bq_base.specs.declared.fault.Fault.{Fault}
use Rattle.bq_base.specs.declared.fault.FaultKind.{FaultKind}
use Rattle.bq_base.specs.declared.fault.FaultKind.TheVariants as f
use Rattle.bq_base.specs.declared.fault.LoadFault.{LoadFault}
use Rattle.bq_parse_grammar.specs.declared.tree.FileKind.{FileKind}
use Rattle.bq_parse_grammar.specs.declared.tree.FileKind.TheVariants as kinds
use Rattle.bq_label.specs.Label.{LabelParts, package_of, full_form}
use Rattle.bq_resolve_scope.specs.Names.{Name, global_names}
use Rattle.bq_resolve_laws.specs.Files.{ParsedFile}
use Rattle.bq_resolve_laws.specs.Loads.{file_loads}
use Rattle.bq_value.specs.Datum.{Datum}
use Rattle.bq_package_target.specs.Package.{no_targets}
use Rattle.bq_package.specs.Calls.{HeldPackage, outside, declaring}
use Rattle.bq_load_front.specs.Parsed.{ParsedFront}
use Rattle.bq_load.specs.Views.{ModuleView, FailedView, not_evaluated}
use Rattle.bq_load_by_name.specs.Evaluation.{evaluation, module_after, file_means}
use Rattle.bq_load_by_name.specs.Parsed.{ParsedModule, ParsedParts}
use Rattle.bq_load_by_name.specs.Results.{line_of_load}

-- the parsed file of a module, unless that has a fault
abbrev pub file_by : Result ParsedFront (Fault FaultKind) → Option ParsedFile
file_by r = elim r [ Err why ↦ None | Ok front ↦ Some front.file ]

-- a file of this kind that others may load
abbrev pub file_by_kind : FileKind → Result ParsedFront (Fault FaultKind) → Option ParsedFile
file_by_kind kind r = elim kind [ kinds.Bzl ↦ file_by r | kinds.Build ↦ None ]

-- the names that a parsed file binds at its top level
abbrev pub globals_by : Option (Option ParsedFile) → List Name
globals_by o = elim o [ Some (Some file) ↦ global_names file.statements | _ ↦ [] ]

-- the package that the evaluation of a file declares into: a .bzl file has none
abbrev pub kept_by : ParsedParts → LabelParts → FileKind → HeldPackage
kept_by x l kind = elim kind [
  | kinds.Bzl ↦ outside (package_of l) x.packages
  | kinds.Build ↦
      declaring (record { place = record { own = package_of l; paths = x.paths; packages = x.packages; rules = x.rules }; «package» = no_targets l })
]

-- a module, by what its loads gave
abbrev pub by_imports : ParsedParts → ℕ → LabelParts → ParsedFile → List ModuleView → Result (List Datum) (Fault LoadFault) → Result ModuleView FailedView
by_imports x m l file modules r = elim r [
  | Err why ↦ Err (not_evaluated (fault_as kind_of_load why))
  | Ok values ↦ module_after file values (evaluation x m l file modules values)
]

-- the outcome of a module, by how its file was read
abbrev pub by_front : ParsedParts → ℕ → LabelParts → List ModuleView → Result ParsedFront (Fault FaultKind) → Result ModuleView FailedView
by_front x m l modules r = elim r [ Err why ↦ Err (not_evaluated why) | Ok front ↦ file_means x m l front modules ]

-- the outcome of a module, if there is one
abbrev pub by_module : ParsedParts → ℕ → List ModuleView → Option ParsedModule → Result ModuleView FailedView
by_module x m modules o = elim o [ None ↦ Err (not_evaluated (fault_at f.NoSuchFile 0)) | Some s ↦ by_front x m s.label modules s.front ]

-- the line of the first load of this file in one that was read so
abbrev pub line_by : LabelParts → Result ParsedFront (Fault FaultKind) → ℕ
line_by l r = elim r [ Err why ↦ 0 | Ok read ↦ line_of_load l (file_loads read.file.statements) read.loads ]

-- the fault of a loader, by the module that it loads
abbrev pub load_fault_by : LoadFault → Result ParsedFront (Fault FaultKind) → Option ParsedModule → Fault FaultKind
load_fault_by kind front o =
    elim o [ None ↦ fault_at (kind_of_load kind) 0 | Some m ↦ record { kind = kind_of_load kind; line = line_by m.label front; detail = full_form m.label } ]
