-- What is kept of a workspace that was loaded.
use Rattle.std.specs.Prelude.{◌≡◌, ℕ, List, length, map, Result, Ok, Err}
use Rattle.std.specs.declared.alloc.Global.{Global}
use Rattle.std.specs.declared.sync.Arc.{Arc}
use Rattle.bq_label.specs.declared.workspace.File.{File}
use Rattle.bq_label.specs.Label.{LabelParts}
use Rattle.bq_package_schema.specs.Schema.{Rules}
use Rattle.bq_board.specs.Graph.{Loads, Fits}
use Rattle.bq_load_discover.specs.declared.load_err.LoadErr.{LoadErr}
use Rattle.bq_load_discover.specs.LoadGraph.{GraphParts, IsNumbered, IsReadGraph, inputs_of}
use Rattle.bq_load_discover.specs.Schema.{schema_in}
use Rattle.bq_load_module.specs.declared.outcome.LoadedModule.{LoadedModule}
use Rattle.bq_load_module.specs.declared.outcome.FailedModule.{FailedModule}
use Rattle.bq_load_order.specs.Outcome.{outcome}
use Rattle.bq_load_order.specs.declared.outcome.Outcome.{Outcome}
use Rattle.bq_load_order.specs.SharedOutcomes.{shown}
use Rattle.bq_load_order.specs.Slots.{Tabulates}
use Rattle.bq_load.specs.declared.loaded.Loaded.{Loaded}
use Rattle.bq_load.specs.Views.{module_view, failed_view}
use Rattle.bq_load.specs.Loading.{LoadingParts, loading_in}
use Rattle.bq_load.specs.Evaluation.{means}
use Rattle.bq_load_changes.specs.Graph.{IsGraphOf}
use Rattle.bq_load_reload.specs.declared.kept.Kept.{Kept}
use Rattle.bq_load_reload.specs.declared.kept.Reloaded.{Reloaded}

-- the outcomes of modules, as they are shared
abbrev pub Shared : Type 0
Shared = Outcome (Arc LoadedModule Global) (Arc FailedModule Global)

-- these are the outcomes of the modules of a load graph, by the recursion along loads
abbrev pub AreOutcomes : LoadingParts → Loads → List Shared → Type 0
AreOutcomes x p outcomes = Tabulates (length p) (outcome (means x) p) (map (shown module_view failed_view) outcomes)

-- these files were loaded, with so many steps for each module: the modules had these labels and loads, and came to these outcomes
pub record WereLoaded (files : List File) (limit : ℕ) (ls : List LabelParts) (p : Loads) (os : List Shared) : Type 0 where
  pub graph : GraphParts
  pub is : IsGraphOf files graph
  pub labelled : ls ≡ graph.labels
  pub loaded : p ≡ graph.edges
  pub outcomes : AreOutcomes (loading_in files is.rules limit graph) p os

-- this was kept of these files when they were loaded, with so many steps for each module
pub record IsKept (files : List File) (limit : ℕ) (kept : Kept) : Type 0 where
  pub is : IsGraphOf files kept.graph
  pub fits : Fits kept.limits kept.graph.edges
  pub outcomes : AreOutcomes (loading_in files is.rules limit kept.graph) kept.graph.edges kept.outcomes.items

-- what a workspace loads to, or why it doesn't
abbrev pub loaded_by : Result Reloaded LoadErr → Result Loaded LoadErr
loaded_by (Ok r) = Ok r.loaded
loaded_by (Err why) = Err why
