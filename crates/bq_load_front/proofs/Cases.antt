-- A file, by what may be missing or wrong.
use Rattle.std.proofs.Common.{List, [], ◌∷◌, Option, None, Some, Result, Ok, Err}
use Rattle.bq_base.specs.declared.fault.FaultKind.{FaultKind}
use Rattle.bq_base.specs.declared.fault.Fault.{Fault}
use Rattle.bq_base.specs.declared.fault.FaultKind.TheVariants as f
use Rattle.bq_base.specs.declared.fault.NameFault.{NameFault}
use Rattle.bq_base.specs.Fault.{fault_as, fault_at, kind_of_name}
use Rattle.bq_label.specs.declared.workspace.File.{File}
use Rattle.bq_label.specs.Label.{LabelParts}
use Rattle.bq_resolve_laws.specs.Files.{ParsedFile}
use Rattle.bq_load_front.specs.Resolved.{◌>>=◌}
use Rattle.bq_load_front.specs.Inputs.{InputParts, universe_of}
use Rattle.bq_load_front.specs.Parsed.{ParsedFront, kind_of, front_from}
use Rattle.bq_load_front.specs.Reading.{file_of_text}

-- the file, unless it breaks one of these rules
abbrev pub unless_broken : ParsedFile → List (Fault NameFault) → Result ParsedFile (Fault FaultKind)
unless_broken file vs = elim vs [ [] ↦ Ok file | why ∷ more ↦ Err (fault_as kind_of_name why) ]

-- what the file of a label is, if it is there
abbrev pub parsed_at : InputParts → LabelParts → Option File → Result ParsedFront (Fault FaultKind)
parsed_at inputs l o = elim o [
  | None ↦ Err (fault_at f.NoSuchFile 0)
  | Some x ↦ file_of_text (universe_of inputs (kind_of l)) x.content >>= front_from inputs l
]
