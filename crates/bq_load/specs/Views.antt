-- Modules with their outcomes, as contracts see them.
use Rattle.std.specs.Prelude.{List, map, Result, Ok, Err}
use Rattle.std.specs.declared.alloc.Global.{Global}
use Rattle.std.specs.declared.sync.Arc.{Arc}
use Rattle.bq_label.specs.Label.{LabelParts}
use Rattle.bq_load_module.specs.declared.outcome.LoadedModule.{LoadedModule}
use Rattle.bq_load_module.specs.declared.outcome.FailedModule.{FailedModule}
pub use Rattle.bq_load_module.specs.Views.{ModuleView, FailedView, module_view, failed_view, not_evaluated}
use Rattle.bq_load.specs.declared.outcome.ModuleOutcome.{ModuleOutcome}

-- a module with its outcome
pub record OutcomeView : Type 0 where
  pub label : LabelParts
  pub result : Result ModuleView FailedView

-- shared modules, in their order, as contracts see them
abbrev pub module_views : List (Arc LoadedModule Global) → List ModuleView
module_views ms = map (λ m. module_view m.value) ms

-- a module that was evaluated or one that failed, as contracts see them
abbrev pub result_view : Result (Arc LoadedModule Global) FailedModule → Result ModuleView FailedView
result_view (Ok m) = Ok (module_view m.value)
result_view (Err m) = Err (failed_view m)

-- a module's label and result, as contracts see them
abbrev pub outcome_view : ModuleOutcome → OutcomeView
outcome_view o = record { label = o.label; result = result_view o.result }
