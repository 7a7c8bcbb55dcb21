-- Lines are counted from 1: so no fault line of a workspace that is loaded names line 0, and no target but a source file is in one.
use Rattle.std.specs.Prelude.{◌≡◌, ◌≤◌, ◌⊎◌, ℕ, List, Ok, IfErr}
use Rattle.std.specs.List.{AllByRecursion, Contains}
use Rattle.bq_base.specs.declared.fault.FaultKind.{FaultKind}
use Rattle.bq_base.specs.declared.fault.Fault.{Fault}
use Rattle.bq_label.specs.declared.workspace.File.{File}
use Rattle.bq_label.specs.Label.{LabelParts}
use Rattle.bq_label.specs.Workspace.{IsWorkspace}
use Rattle.bq_package_schema.specs.Schema.{Rules}
use Rattle.bq_package_target.specs.declared.target.Target.{Target}
use Rattle.bq_package_target.specs.Package.{PackageTargets}
use Rattle.bq_package_target.specs.Target.{source}
use Rattle.bq_base_texts.specs.declared.fault_line.FaultLine.{FaultLine}
use Rattle.bq_load_front.specs.Inputs.{InputParts}
use Rattle.bq_load_discover.specs.LoadGraph.{GraphParts, IsReadGraph, inputs_of}
use Rattle.bq_load.specs.declared.loaded.Loaded.{Loaded}
use Rattle.bq_base.specs.declared.limits.Limits.{Limits}
use Rattle.bq_load.specs.Loaded.{LoadsWithin}
use Rattle.bq_load.specs.Results.{outcomes}
use Rattle.bq_load.specs.Loading.{loading_in}
use Rattle.bq_load.specs.Views.{OutcomeView}
use Rattle.bq_load_laws.specs.Faults.Parts.{FailsIn}

-- whatever part of its file a module fails in
abbrev pub FaultsStandOnLines : Type 0
FaultsStandOnLines = (inputs : InputParts) (l : LabelParts) (why : Fault FaultKind) → FailsIn inputs l why → 1 ≤ why.line

-- if the module failed, the line of its fault is at least 1
abbrev pub StandsOnALine : OutcomeView → Type 0
StandsOnALine o = IfErr o.result (λ m. 1 ≤ m.fault.line)

-- each module of a load graph that fails
abbrev pub OutcomesStandOnLines : Type 0
OutcomesStandOnLines =
    (files : List File) (rules : Rules) (limit : ℕ) (g : GraphParts) → IsWorkspace files → IsReadGraph (inputs_of files rules) g
    → AllByRecursion StandsOnALine (outcomes (loading_in files rules limit g) g.edges)

-- each fault line of a workspace that is loaded
abbrev pub FaultLinesStandOnLines : Type 0
FaultLinesStandOnLines =
    (files : List File) (rules : Rules) (limits : Limits) (l : Loaded) → IsWorkspace files → LoadsWithin files rules limits (Ok l) → (line : FaultLine) → Contains l.faults line → 1 ≤ line.line

-- each target of a workspace that is loaded, if it isn't a source file
abbrev pub TargetsStandOnLines : Type 0
TargetsStandOnLines =
    (files : List File) (rules : Rules) (limits : Limits) (l : Loaded) → IsWorkspace files → LoadsWithin files rules limits (Ok l)
    → (p : PackageTargets) → Contains l.packages p → (t : Target) → Contains p.targets t → (t ≡ source t.label t.line) ⊎ (1 ≤ t.line)
