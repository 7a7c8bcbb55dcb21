-- What the resolver makes of the file of a module: its resolved file and the files that it loads, or its first fault. `Agreement` says that it
-- is what the file is (`Parsed`).
use Rattle.std.specs.Prelude.{ℕ, List, [], Option, None, Some, Result, Ok, Err}
use Rattle.bq_base.specs.declared.fault.FaultKind.{FaultKind}
use Rattle.bq_base.specs.declared.fault.Fault.{Fault}
use Rattle.bq_base.specs.declared.fault.FaultKind.TheVariants as f
use Rattle.bq_base.specs.declared.fault.LoadFault.{LoadFault}
use Rattle.bq_base.specs.Fault.{fault_at, kind_of_load, or_fault_as}
use Rattle.bq_label.specs.declared.workspace.File.{File}
use Rattle.bq_label.specs.Label.{PackageParts, LabelParts, package_of}
use Rattle.bq_label.specs.Packages.{label_file}
use Rattle.bq_resolve_laws.specs.Loads.{written_load}
use Rattle.bq_resolve_scope.specs.declared.loads.LoadStmt.{LoadStmt}
use Rattle.bq_load_front.specs.declared.front.Front.{Front}
use Rattle.bq_load_front.specs.Resolved.{resolved_file, ◌>>=◌}
use Rattle.bq_load_front.specs.Inputs.{InputParts, universe_of}
use Rattle.bq_load_front.specs.Parsed.{file_named, kind_of, labels_of}

-- the label of the file that a load in this package names, or the load's fault
abbrev pub load_of : InputParts → PackageParts → LoadStmt → Result LabelParts (Fault LoadFault)
load_of inputs own x = file_named inputs own (written_load x)

-- what a text gives as the file of this label
abbrev pub front_by : InputParts → LabelParts → List ℕ → Result Front (Fault FaultKind)
front_by inputs l text =
    resolved_file (universe_of inputs (kind_of l)) text >>= λ file. or_fault_as kind_of_load (labels_of (load_of inputs (package_of l)) [] file.loads) >>= λ ls. Ok (record { file = file; loads = ls })

-- no module of a workspace lacks its file
abbrev pub front_at : InputParts → LabelParts → Option File → Result Front (Fault FaultKind)
front_at inputs l None = Err (fault_at f.NoSuchFile 0)
front_at inputs l (Some x) = front_by inputs l x.content

-- what the file of this label gives
unfoldable pub front_of : InputParts → LabelParts → Result Front (Fault FaultKind)
front_of inputs l = front_at inputs l (label_file inputs.files l)

-- the labels of the loads of a file: none if it has a fault of its own or a bad load
abbrev pub loads_by : Result Front (Fault FaultKind) → List LabelParts
loads_by (Err why) = []
loads_by (Ok front) = front.loads
