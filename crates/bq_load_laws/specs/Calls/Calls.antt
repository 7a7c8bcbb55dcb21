-- Whose functions a module can call along the loads of a workspace.
use Rattle.std.specs.Prelude.{◌≡◌, ℕ, List, map, Ok, Some, slice_get}
use Rattle.bq_label.specs.declared.workspace.File.{File}
use Rattle.bq_label.specs.Label.{LabelParts}
use Rattle.bq_package_schema.specs.Schema.{Rules}
use Rattle.bq_board.specs.Cycles.{Reaches}
use Rattle.bq_board.specs.Graph.{Loads, row}
use Rattle.bq_eval_laws.specs.Evaluations.Callable.{IsCallable}
use Rattle.bq_load_discover.specs.LoadGraph.{GraphParts, IsReadGraph, inputs_of}
use Rattle.bq_load_order.specs.Outcome.{outcome, load_values}
use Rattle.bq_load.specs.Evaluation.{means}
use Rattle.bq_load.specs.ResolvedFiles.{resolved_files}
use Rattle.bq_load.specs.Loading.{LoadingParts, loading_in}
use Rattle.bq_load.specs.Views.{ModuleView}

-- each module that this one loads has a value, and these are the values
abbrev pub AreLoaded : LoadingParts → Loads → ℕ → List ModuleView → Type 0
AreLoaded x p m modules = load_values (outcome (means x) p) (row p m) ≡ Ok modules

-- A module of a load graph that is evaluated can call the functions of each module that loads lead to from it.
abbrev pub FunctionsOfLoadsAreCallable : Type 0
FunctionsOfLoadsAreCallable =
    (files : List File) (rules : Rules) (limit : ℕ) (g : GraphParts) → IsReadGraph (inputs_of files rules) g → (m home : ℕ) (l : LabelParts) (modules : List ModuleView)
    → slice_get g.labels m ≡ Some l → AreLoaded (loading_in files rules limit g) g.edges m modules → Reaches g.edges m home → IsCallable (resolved_files g.modules) m (map (λ v. v.frozen) modules) home
