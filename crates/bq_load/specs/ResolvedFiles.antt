-- The resolved files of modules. Only those of .bzl files are looked at by other modules: no load names a BUILD file.
use Rattle.std.specs.Prelude.{List, map, Option, Some, None, Result, Ok, Err}
use Rattle.bq_base.specs.declared.fault.FaultKind.{FaultKind}
use Rattle.bq_base.specs.declared.fault.Fault.{Fault}
use Rattle.bq_parse_grammar.specs.declared.tree.FileKind.{FileKind}
use Rattle.bq_parse_grammar.specs.declared.tree.FileKind.TheVariants as kinds
use Rattle.bq_resolve_scope.specs.declared.file.ResolvedFile.{ResolvedFile}
use Rattle.bq_load_front.specs.Parsed.{kind_of}
use Rattle.bq_load_front.specs.declared.front.Front.{Front}
use Rattle.bq_load_discover.specs.declared.modules.Module.{Module}

-- a module with a fault of its own has no resolved file
abbrev pub front_file : Result Front (Fault FaultKind) → Option ResolvedFile
front_file (Err why) = None
front_file (Ok front) = Some front.file

-- the resolved file, by the kind of the module's file: None for a BUILD file
abbrev pub file_by_kind : FileKind → Result Front (Fault FaultKind) → Option ResolvedFile
file_by_kind kinds.Bzl r = front_file r
file_by_kind kinds.Build r = None

-- the resolved file of a module that others may load
abbrev pub loaded_file : Module → Option ResolvedFile
loaded_file m = file_by_kind (kind_of m.label) m.front

-- the resolved files of the .bzl files among these modules, by the modules' numbers
abbrev pub resolved_files : List Module → List (Option ResolvedFile)
resolved_files ms = map loaded_file ms
