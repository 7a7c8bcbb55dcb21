-- What is made of a file is what the file is: names and slots agree.
use Rattle.std.specs.Prelude.{◌≡◌, Result, Ok, Err}
use Rattle.bq_base.specs.declared.fault.FaultKind.{FaultKind}
use Rattle.bq_base.specs.declared.fault.Fault.{Fault}
use Rattle.bq_label.specs.Label.{LabelParts}
use Rattle.bq_resolve_laws.specs.Files.{ResolvesTo}
use Rattle.bq_load_front.specs.declared.front.Front.{Front}
use Rattle.bq_load_front.specs.Front.{front_of, loads_by}
use Rattle.bq_load_front.specs.Inputs.{InputParts}
use Rattle.bq_load_front.specs.Parsed.{ParsedFront}
use Rattle.bq_load_front.specs.Reading.{parsed_of, loads_of}

-- the file that it resolves to and the same loads, or the same fault
abbrev pub IsFrontOf : Result ParsedFront (Fault FaultKind) → Result Front (Fault FaultKind) → Type 0
IsFrontOf (Ok x) (Ok front) = ResolvesTo x.file front.file × (front.loads ≡ x.loads)
IsFrontOf (Err why) (Err told) = told ≡ why
IsFrontOf _ _ = ⊥

-- the file of each label is resolved to what its trees resolve to, with the same loads, or has the same fault
abbrev pub FrontsAgree : Type 0
FrontsAgree = (inputs : InputParts) (l : LabelParts) → IsFrontOf (parsed_of inputs l) (front_of inputs l)

-- so a module loads, once it is resolved, what it loads
abbrev pub LoadsAgree : Type 0
LoadsAgree = (inputs : InputParts) (l : LabelParts) → loads_by (front_of inputs l) ≡ loads_of inputs l
