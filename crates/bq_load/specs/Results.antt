-- The outcome of each module, with its fault if it has no value. A module whose loads lead to a cycle is F35 and names
-- its first load that is cyclic; one that is too deep is F38 and names its first load at which a path of as many edges
-- starts as there may be; one with a load that has no value is F36 and names the first of them.
use Rattle.std.specs.Prelude.{ℕ, ◌+◌, List, [], ◌∷◌, Option, Some, None, Result, Ok, Err, slice_get, bytes_eq, if◌then◌else◌}
use Rattle.bq_base.specs.declared.fault.Fault.{Fault}
use Rattle.bq_base.specs.declared.fault.FaultKind.{FaultKind}
use Rattle.bq_base.specs.declared.fault.LoadFault.{LoadFault}
use Rattle.bq_base.specs.declared.fault.LoadFault.TheVariants as of_load
use Rattle.bq_base.specs.Fault.{fault_at, kind_of_load}
use Rattle.bq_label.specs.Label.{LabelParts, full_form}
use Rattle.bq_resolve_scope.specs.declared.loads.LoadStmt.{LoadStmt}
use Rattle.bq_board.specs.Graph.{Loads}
use Rattle.bq_load_order.specs.Outcome.{outcome}
use Rattle.bq_load_order.specs.declared.outcome.Outcome.{Outcome}
use Rattle.bq_load_order.specs.declared.outcome.Outcome.TheVariants as o
use Rattle.bq_load_front.specs.declared.front.Front.{Front}
use Rattle.bq_load_discover.specs.declared.modules.Module.{Module}
use Rattle.bq_load.specs.Views.{ModuleView, FailedView, OutcomeView, not_evaluated}
use Rattle.bq_load.specs.Loading.{LoadingParts}
use Rattle.bq_load.specs.Evaluation.{means}

-- the line of the first of these loads, which name these files, that names this one
unfoldable pub line_of_load : LabelParts → List LoadStmt → List LabelParts → ℕ
line_of_load l [] ls = 0
line_of_load l (s ∷ ss) [] = 0
line_of_load l (s ∷ ss) (k ∷ ks) = if bytes_eq (full_form l) (full_form k) then s.line else line_of_load l ss ks

-- a file with a fault of its own loads nothing
abbrev pub line_by : LabelParts → Result Front (Fault FaultKind) → ℕ
line_by l (Err why) = 0
line_by l (Ok front) = line_of_load l front.file.loads front.loads

-- the fault of a load: its line, and the label of the loaded module; in line 0 without a label where there is no such module
abbrev pub load_fault_by : LoadFault → Result Front (Fault FaultKind) → Option Module → Fault FaultKind
load_fault_by kind front None = fault_at (kind_of_load kind) 0
load_fault_by kind front (Some loaded) = record { kind = kind_of_load kind; line = line_by loaded.label front; detail = full_form loaded.label }

-- the fault of a module whose file is this, for its load of module k
unfoldable pub load_fault : LoadingParts → Result Front (Fault FaultKind) → LoadFault → ℕ → Fault FaultKind
load_fault x front kind k = load_fault_by kind front (slice_get x.modules k)

-- a value or an own fault as it is; else the fault of the load of module k: F35 cyclic, F38 too deep, F36 without a value
abbrev pub result_of : LoadingParts → Result Front (Fault FaultKind) → Outcome ModuleView FailedView → Result ModuleView FailedView
result_of x front (o.Loaded v) = Ok v
result_of x front (o.Faulty e) = Err e
result_of x front (o.Cyclic k) = Err (not_evaluated (load_fault x front of_load.CycleReached k))
result_of x front (o.TooDeep k) = Err (not_evaluated (load_fault x front of_load.LoadDepth k))
result_of x front (o.LoadFailed k) = Err (not_evaluated (load_fault x front of_load.LoadFailed k))

-- a module with what it comes to by this outcome along loads
abbrev pub outcome_by : LoadingParts → Module → Outcome ModuleView FailedView → OutcomeView
outcome_by x s along = record { label = s.label; result = result_of x s.front along }

-- a module's outcome by the recursion along loads
abbrev pub outcome_of : LoadingParts → Loads → ℕ → Module → OutcomeView
outcome_of x p m s = outcome_by x s (outcome (means x) p m)

-- those of these modules, the first of which has this number
abbrev pub outcomes_from : LoadingParts → Loads → ℕ → List Module → List OutcomeView
outcomes_from x p m [] = []
outcomes_from x p m (s ∷ ss) = outcome_of x p m s ∷ outcomes_from x p (m + 1) ss

-- each module with its outcome
unfoldable pub outcomes : LoadingParts → Loads → List OutcomeView
outcomes x p = outcomes_from x p 0 x.modules
