-- Words of the laws.
use Rattle.std.specs.Prelude.{◌≡◌, List}
use Rattle.bq_label.specs.declared.workspace.File.{File}
use Rattle.bq_label.specs.Label.{LabelParts}
use Rattle.bq_label.specs.Workspace.{IsWorkspace}
use Rattle.bq_package_schema.specs.Schema.{Rules}
use Rattle.bq_base.specs.declared.limits.Limits.{Limits}
use Rattle.bq_board_plan.specs.Graph.{Loads, Fits}
use Rattle.bq_label.specs.Packages.{packages_of, IsFileOf}
use Rattle.bq_load_front.specs.Inputs.{InputParts}
use Rattle.bq_load_front.specs.Parsed.{Fronts, AreFronts}
use Rattle.bq_load_discover.specs.Modules.{IsModule, AreTooMany}
use Rattle.bq_load_discover.specs.LoadGraph.{IsLoadGraph, inputs_of}

-- two load graphs of one workspace are one
abbrev pub OneLoadGraph : Type 0
OneLoadGraph =
    (inputs : InputParts) (a b : Fronts) → AreFronts inputs a → AreFronts inputs b
    → (ls ms : List LabelParts) (p q : Loads) → IsLoadGraph inputs.packages a ls p → IsLoadGraph inputs.packages b ms q → (ls ≡ ms) × (p ≡ q)

-- where there are too many modules or edges no load graph keeps the limits
abbrev pub TooManyForALoadGraph : Type 0
TooManyForALoadGraph =
    (limits : Limits) (inputs : InputParts) (a b : Fronts) → AreFronts inputs a → AreFronts inputs b
    → (labels : List LabelParts) (p : Loads) → AreTooMany limits inputs.packages a → IsLoadGraph inputs.packages b labels p → ¬ Fits limits p

-- each module has a file, the one that its label names in its repository
abbrev pub ModulesHaveFiles : Type 0
ModulesHaveFiles =
    (files : List File) (rules : Rules) (fronts : Fronts) (l : LabelParts) → IsWorkspace files → AreFronts (inputs_of files rules) fronts → IsModule (packages_of files) fronts l
    → (f : File) × IsFileOf files l f
