-- A module that was evaluated, and one that failed, as contracts see them.
use Rattle.std.specs.Prelude.{ℕ, List, [], Option}
use Rattle.bq_base.specs.declared.fault.FaultKind.{FaultKind}
use Rattle.bq_base.specs.declared.fault.Fault.{Fault}
use Rattle.bq_value.specs.Cells.{FrozenView}
use Rattle.bq_package_target.specs.Package.{PackageTargets}
use Rattle.bq_load_module.specs.declared.outcome.LoadedModule.{LoadedModule}
use Rattle.bq_load_module.specs.declared.outcome.FailedModule.{FailedModule}

-- a module that was evaluated: the cells and globals of a .bzl file, what it printed, and the package of a BUILD file
pub record ModuleView : Type 0 where
  pub frozen : FrozenView
  pub prints : List (List ℕ)
  pub «package» : Option PackageTargets

-- a module that failed: why, and what it had printed by then
pub record FailedView : Type 0 where
  pub fault : Fault FaultKind
  pub prints : List (List ℕ)

-- what contracts see of a module that was evaluated: its cells and globals, its prints, and its package
abbrev pub module_view : LoadedModule → ModuleView
module_view m = record { frozen = m.frozen.value; prints = m.prints.items; «package» = m.package }

-- what contracts see of a module that failed: its fault, and its prints
abbrev pub failed_view : FailedModule → FailedView
failed_view m = record { fault = m.fault; prints = m.prints.items }

-- it failed before it was evaluated
abbrev pub not_evaluated : Fault FaultKind → FailedView
not_evaluated why = record { fault = why; prints = [] }
