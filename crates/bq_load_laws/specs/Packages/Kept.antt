-- What a BUILD file's module keeps of its globals and of the cells that it made is seen by nobody.
use Rattle.std.specs.Prelude.{◌≡◌, ℕ, List, Option, Some, None, Result, Ok, Err}
use Rattle.bq_label.specs.declared.workspace.File.{File}
use Rattle.bq_label.specs.Label.{LabelParts}
use Rattle.bq_package_schema.specs.Schema.{Rules}
use Rattle.bq_package_target.specs.Package.{PackageTargets}
use Rattle.bq_value.specs.Cells.{FrozenView}
use Rattle.bq_load_discover.specs.LoadGraph.{GraphParts, IsReadGraph, inputs_of}
use Rattle.bq_load_order.specs.Outcome.{outcome}
use Rattle.bq_load_order.specs.declared.outcome.Outcome.{Outcome}
use Rattle.bq_load_order.specs.declared.outcome.Outcome.TheVariants as o
use Rattle.bq_load.specs.Evaluation.{means}
use Rattle.bq_load.specs.Loaded.{package_by, lines_by, prints_by}
use Rattle.bq_load.specs.Loading.{loading_in}
use Rattle.bq_load.specs.Views.{ModuleView, FailedView}

-- the module with this for its globals and cells, where it has a package, as BUILD files' modules have
abbrev pub frozen_by : FrozenView → ModuleView → Option PackageTargets → ModuleView
frozen_by made v None = v
frozen_by made v (Some p) = record v { frozen = made }

-- the module with this for its globals and cells where it has a package, else the module as it is
abbrev pub with_frozen : FrozenView → ModuleView → ModuleView
with_frozen made v = frozen_by made v v.package

-- a module's result with this for its globals and cells where it has a package; a failure as it is
abbrev pub result_with : FrozenView → Result ModuleView FailedView → Result ModuleView FailedView
result_with made (Ok v) = Ok (with_frozen made v)
result_with made (Err why) = Err why

-- each file means what it means, but that a BUILD file's module keeps this
abbrev pub keeping : (ℕ → FrozenView) → (ℕ → List ModuleView → Result ModuleView FailedView) → ℕ → List ModuleView → Result ModuleView FailedView
keeping kept means m vs = result_with (kept m) (means m vs)

-- an outcome whose value has this for its globals and cells where it has a package; any outcome without a value as it is
abbrev pub outcome_with : FrozenView → Outcome ModuleView FailedView → Outcome ModuleView FailedView
outcome_with made (o.Loaded v) = o.Loaded (with_frozen made v)
outcome_with made (o.Faulty e) = o.Faulty e
outcome_with made (o.Cyclic k) = o.Cyclic k
outcome_with made (o.TooDeep k) = o.TooDeep k
outcome_with made (o.LoadFailed k) = o.LoadFailed k

-- Whatever the modules of BUILD files keep, each module of a load graph has the outcome that it has: what another BUILD file keeps changes
-- nothing in it, and what it keeps itself is all that differs.
abbrev pub OutcomesStay : Type 0
OutcomesStay =
    (files : List File) (rules : Rules) (limit : ℕ) (g : GraphParts) → IsReadGraph (inputs_of files rules) g → (kept : ℕ → FrozenView) (m : ℕ)
    → outcome (keeping kept (means (loading_in files rules limit g))) g.edges m ≡ outcome_with (kept m) (outcome (means (loading_in files rules limit g)) g.edges m)

-- what a workspace that is loaded has of a module beside its globals and cells: its package, its fault line, and what it printed
pub record TellsTheSame (l : LabelParts) (a b : Result ModuleView FailedView) : Type 0 where
  pub package_is : package_by l a ≡ package_by l b
  pub lines : lines_by l a ≡ lines_by l b
  pub prints : prints_by a ≡ prints_by b

-- other globals and cells of a BUILD file's module change neither its package nor its fault line nor its prints
abbrev pub ResultsTellTheSame : Type 0
ResultsTellTheSame = (l : LabelParts) (made : FrozenView) (r : Result ModuleView FailedView) → TellsTheSame l (result_with made r) r
