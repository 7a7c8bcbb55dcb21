-- The first of a file's loads that names a file: a fault of a load is at it.
use Rattle.std.specs.Prelude.{◌≡◌, ℕ, List, ◌∷◌, ◌++◌, length, Some, Result, Ok, slice_get, bytes_eq, true, false}
use Rattle.std.specs.List.{AllByRecursion}
use Rattle.bq_base.specs.declared.fault.Fault.{Fault}
use Rattle.bq_base.specs.declared.fault.FaultKind.{FaultKind}
use Rattle.bq_base.specs.declared.fault.LoadFault.{LoadFault}
use Rattle.bq_base.specs.declared.fault.LoadFault.TheVariants as f
use Rattle.bq_base.specs.Fault.{fault_as, kind_of_load}
use Rattle.bq_label.specs.declared.workspace.File.{File}
use Rattle.bq_label.specs.Label.{LabelParts, full_form}
use Rattle.bq_resolve_scope.specs.declared.loads.LoadStmt.{LoadStmt}
use Rattle.bq_package_schema.specs.Schema.{Rules}
use Rattle.bq_load_discover.specs.LoadGraph.{GraphParts, IsReadGraph, inputs_of}
use Rattle.bq_load_order.specs.Outcome.{outcome}
use Rattle.bq_load_order.specs.declared.outcome.Outcome.{Outcome}
use Rattle.bq_load_order.specs.declared.outcome.Outcome.TheVariants as o
use Rattle.bq_load_front.specs.declared.front.Front.{Front}
use Rattle.bq_load_discover.specs.declared.modules.Module.{Module}
use Rattle.bq_load.specs.Evaluation.{means}
use Rattle.bq_load.specs.Results.{load_fault}
use Rattle.bq_load.specs.Loading.{LoadingParts, loading_in}
use Rattle.bq_load.specs.Views.{ModuleView, FailedView}

-- of these loads, which name these files, this is the first that names one whose label has this form
pub record IsFirstLoadOf (file : LabelParts) (load : LoadStmt) (loads : List LoadStmt) (files : List LabelParts) : Type 0 where
  pub before : List LoadStmt
  pub after : List LoadStmt
  pub loads_are : loads ≡ before ++ load ∷ after
  pub named : LabelParts
  pub other : List LabelParts
  pub later : List LabelParts
  pub files_are : files ≡ other ++ named ∷ later
  pub form : bytes_eq (full_form file) (full_form named) ≡ true
  pub place : length before ≡ length other
  pub others : AllByRecursion (λ l. bytes_eq (full_form file) (full_form l) ≡ false) other

-- of the loads in this file, this is the first of module `k`, which is this one
pub record LoadsFirst (x : LoadingParts) (k : ℕ) (front : Result Front (Fault FaultKind)) (loaded : Module) (load : LoadStmt) : Type 0 where
  pub own : Front
  pub read : front ≡ Ok own
  pub known : slice_get x.modules k ≡ Some loaded
  pub first : IsFirstLoadOf loaded.label load own.file.loads own.loads

-- the fault at that load, which names what it loads
abbrev pub fault_at_load : LoadFault → LoadStmt → Module → Fault LoadFault
fault_at_load kind load loaded = record { kind = kind; line = load.line; detail = full_form loaded.label }

-- the fault of a module for its load of another is at the first load of that one in its file
abbrev pub FaultsAreAtFirstLoads : Type 0
FaultsAreAtFirstLoads = (x : LoadingParts) (k : ℕ) (front : Result Front (Fault FaultKind)) (loaded : Module) (kind : LoadFault) (load : LoadStmt)
    → LoadsFirst x k front loaded load → load_fault x front kind k ≡ fault_as kind_of_load (fault_at_load kind load loaded)

-- the fault of a module whose file is this, for its load of module `k`, is at the first such load in its file
pub record IsAtItsLoad (x : LoadingParts) (k : ℕ) (front : Result Front (Fault FaultKind)) (kind : LoadFault) : Type 0 where
  pub loaded : Module
  pub load : LoadStmt
  pub first : LoadsFirst x k front loaded load
  pub fault : load_fault x front kind k ≡ fault_as kind_of_load (fault_at_load kind load loaded)

-- so it is where the module comes to nothing by its loads
abbrev pub NamesItsLoad : LoadingParts → Result Front (Fault FaultKind) → Outcome ModuleView FailedView → Type 0
NamesItsLoad x front (o.Loaded v) = Unit {0}
NamesItsLoad x front (o.Faulty e) = Unit {0}
NamesItsLoad x front (o.Cyclic k) = IsAtItsLoad x k front f.CycleReached
NamesItsLoad x front (o.TooDeep k) = IsAtItsLoad x k front f.LoadDepth
NamesItsLoad x front (o.LoadFailed k) = IsAtItsLoad x k front f.LoadFailed

-- each module of a load graph
abbrev pub ModulesNameTheirLoads : Type 0
ModulesNameTheirLoads =
    (files : List File) (rules : Rules) (limit : ℕ) (g : GraphParts) → IsReadGraph (inputs_of files rules) g → (m : ℕ) (s : Module) → slice_get (loading_in files rules limit g).modules m ≡ Some s
    → NamesItsLoad (loading_in files rules limit g) s.front (outcome (means (loading_in files rules limit g)) g.edges m)
