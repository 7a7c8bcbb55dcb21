-- What decides the outcomes of modules by names: each module with what its file is on its own.
use Rattle.std.specs.Prelude.{ℕ, List, map, Option, Some, None, Result, Ok, Err}
use Rattle.bq_base.specs.declared.fault.FaultKind.{FaultKind}
use Rattle.bq_base.specs.declared.fault.Fault.{Fault}
use Rattle.bq_label.specs.declared.workspace.File.{File}
use Rattle.bq_label.specs.declared.packages.BuildFile.{BuildFile}
use Rattle.bq_label.specs.Label.{LabelParts}
use Rattle.bq_label.specs.Packages.{packages_of}
use Rattle.bq_label.specs.Workspace.{paths_of}
use Rattle.bq_resolve_scope.specs.Names.{Name}
use Rattle.bq_resolve_laws.specs.Files.{ParsedFile}
use Rattle.bq_package_schema.specs.Schema.{Rules}
use Rattle.bq_parse_grammar.specs.declared.tree.FileKind.TheVariants as kinds
use Rattle.bq_load_front.specs.Parsed.{ParsedFront, kind_of}
pub use Rattle.bq_load_front.specs.Parsed.{Fronts, AreFronts}

-- a module, and what its file is on its own
pub record ParsedModule : Type 0 where
  pub label : LabelParts
  pub front : Result ParsedFront (Fault FaultKind)

-- The modules by their numbers; the paths of the workspace, and its packages; the rules of its schema, and their names, each once; and how
-- many steps each evaluation may take.
pub record ParsedParts : Type 0 where
  pub modules : List ParsedModule
  pub paths : List (List ℕ)
  pub packages : List BuildFile
  pub rules : Rules
  pub names : List Name
  pub limit : ℕ

-- the file of a module that others may load: a .bzl file; one with a fault of its own, or a bad load, is not evaluated
abbrev pub loaded_file : ParsedModule → Option ParsedFile
loaded_file m = elim (kind_of m.label) [ kinds.Bzl ↦ elim m.front [ Err why ↦ None | Ok front ↦ Some front.file ] | kinds.Build ↦ None ]

-- the .bzl files among these modules, by the modules' numbers
abbrev pub parsed_files : List ParsedModule → List (Option ParsedFile)
parsed_files modules = map loaded_file modules

-- ---- of a load graph

-- the parsed file of a module, unless that has a fault
abbrev pub parsed_module : Fronts → LabelParts → ParsedModule
parsed_module fronts l = record { label = l; front = fronts l }

-- what the files of a workspace, its schema and the labels of its modules decide
abbrev pub parsed_in : List File → Rules → Fronts → ℕ → List LabelParts → ParsedParts
parsed_in files rules fronts limit labels =
    record { modules = map (parsed_module fronts) labels; paths = paths_of files; packages = packages_of files; rules = rules; names = rules.names; limit = limit }
