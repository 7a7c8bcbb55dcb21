-- The outcome of each module by names, with its fault if it has no value. A module whose loads lead to a cycle is F35
-- and names its first load that is cyclic; one that is too deep is F38 and names its first load at which a path of as
-- many edges starts as there may be; one with a load that has no value is F36 and names the first of them.
use Rattle.std.specs.Prelude.{◌≡◌, ℕ, ◌+◌, List, [], ◌∷◌, Some, None, Result, Ok, Err, slice_get, bytes_eq, if◌then◌else◌}
use Rattle.bq_base.specs.declared.fault.Fault.{Fault}
use Rattle.bq_base.specs.declared.fault.FaultKind.{FaultKind}
use Rattle.bq_base.specs.declared.fault.LoadFault.{LoadFault}
use Rattle.bq_base.specs.declared.fault.LoadFault.TheVariants as of_load
use Rattle.bq_base.specs.Fault.{fault_at, kind_of_load}
use Rattle.bq_label.specs.declared.workspace.File.{File}
use Rattle.bq_label.specs.Label.{LabelParts, full_form}
use Rattle.bq_label.specs.Packages.{packages_of}
use Rattle.bq_resolve_laws.specs.Loads.{WrittenLoad, file_loads}
use Rattle.bq_package_schema.specs.Schema.{Rules}
use Rattle.bq_board.specs.Graph.{Loads, Fits}
use Rattle.bq_load_front.specs.Parsed.{ParsedFront, Fronts, AreFronts}
use Rattle.bq_load_discover.specs.LoadGraph.{IsLoadGraph, inputs_of}
use Rattle.bq_base.specs.declared.limits.Limits.{Limits}
use Rattle.bq_load_discover.specs.Modules.{AreTooMany}
use Rattle.bq_load_discover.specs.declared.load_err.LoadErr.{LoadErr}
use Rattle.bq_load_discover.specs.declared.load_err.LoadErr.TheVariants as e
use Rattle.bq_load_order.specs.Outcome.{outcome}
use Rattle.bq_load_order.specs.declared.outcome.Outcome.{Outcome}
use Rattle.bq_load_order.specs.declared.outcome.Outcome.TheVariants as o
pub use Rattle.bq_load.specs.declared.loaded.Loaded.{Loaded}
use Rattle.bq_load.specs.Loaded.{IsGathered}
use Rattle.bq_load.specs.Views.{ModuleView, FailedView, OutcomeView, not_evaluated}
use Rattle.bq_load_by_name.specs.Evaluation.{means}
use Rattle.bq_load_by_name.specs.Parsed.{ParsedModule, ParsedParts, parsed_in}

-- the line of the first of these loads, which name these files, that names this one
unfoldable pub line_of_load : LabelParts → List WrittenLoad → List LabelParts → ℕ
line_of_load l [] ls = 0
line_of_load l (s ∷ ss) [] = 0
line_of_load l (s ∷ ss) (k ∷ ks) = if bytes_eq (full_form l) (full_form k) then s.line else line_of_load l ss ks

-- the fault of a module whose file is this, for its load of module k; a file with a fault of its own loads nothing
unfoldable pub load_fault : ParsedParts → Result ParsedFront (Fault FaultKind) → LoadFault → ℕ → Fault FaultKind
load_fault x front kind k =
    elim (slice_get x.modules k) [
      | None ↦ fault_at (kind_of_load kind) 0
      | Some m ↦
          record {
            kind = kind_of_load kind;
            line = elim front [ Err why ↦ 0 | Ok read ↦ line_of_load m.label (file_loads read.file.statements) read.loads ];
            detail = full_form m.label;
          }
    ]

-- the outcome of a module, with the fault that a load gave it
abbrev pub result_of : ParsedParts → Result ParsedFront (Fault FaultKind) → Outcome ModuleView FailedView → Result ModuleView FailedView
result_of x front (o.Loaded v) = Ok v
result_of x front (o.Faulty e) = Err e
result_of x front (o.Cyclic k) = Err (not_evaluated (load_fault x front of_load.CycleReached k))
result_of x front (o.TooDeep k) = Err (not_evaluated (load_fault x front of_load.LoadDepth k))
result_of x front (o.LoadFailed k) = Err (not_evaluated (load_fault x front of_load.LoadFailed k))

-- these modules, the first of which has this number, each with its outcome by the recursion along loads
abbrev pub outcomes_from : ParsedParts → Loads → ℕ → List ParsedModule → List OutcomeView
outcomes_from x p m [] = []
outcomes_from x p m (s ∷ ss) = record { label = s.label; result = result_of x s.front (outcome (means x) p m) } ∷ outcomes_from x p (m + 1) ss

-- each module with its outcome
unfoldable pub outcomes : ParsedParts → Loads → List OutcomeView
outcomes x p = outcomes_from x p 0 x.modules

-- there are too many modules or edges
abbrev pub HaveTooMany : Limits → List File → Rules → Type 0
HaveTooMany limits files rules = (fronts : Fronts) × AreFronts (inputs_of files rules) fronts × AreTooMany limits (packages_of files) fronts

-- what loading the workspace returns by names, by these limits; memory aside
abbrev pub LoadsByNames : List File → Rules → Limits → Result Loaded LoadErr → Type 0
LoadsByNames files rules limits (Ok l) =
    (fronts : Fronts) × AreFronts (inputs_of files rules) fronts × (labels : List LabelParts) × (edges : Loads) × IsLoadGraph (packages_of files) fronts labels edges
    × IsGathered (packages_of files) (outcomes (parsed_in files rules fronts limits.steps labels) edges) l × Fits limits edges
LoadsByNames files rules limits (Err why) = (why ≡ e.TooManyModules → HaveTooMany limits files rules) × ((line : ℕ) → ¬ (why ≡ e.Schema line))
