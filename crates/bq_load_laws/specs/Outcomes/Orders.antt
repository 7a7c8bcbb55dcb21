-- In which order a module fails (Bazel, "BUILD files" on load statements; ours: the order).
use Rattle.std.specs.Prelude.{ℕ, not, List, [], ◌∷◌, Option, Some, None, Result, Ok, Err, is_some}
use Rattle.bq_base.specs.declared.fault.FaultKind.{FaultKind}
use Rattle.bq_base.specs.declared.fault.FaultKind.TheVariants.{CycleReached, LoadDepth, LoadFailed}
use Rattle.bq_base.specs.declared.fault.LoadFault.{LoadFault}
use Rattle.bq_base.specs.declared.fault.LoadFault.TheVariants.{NoSymbol, PrivateSymbol}
use Rattle.bq_resolve_scope.specs.Names.{Name}
use Rattle.bq_resolve_scope.specs.declared.file.ResolvedFile.{ResolvedFile}
use Rattle.bq_board.specs.Graph.{Loads, row}
use Rattle.bq_board.specs.Cycles.{is_cyclic}
use Rattle.bq_board.specs.Depth.{is_too_deep}
use Rattle.bq_load_order.specs.Outcome.{outcome, load_values}
use Rattle.bq_load.specs.Evaluation.{means}
use Rattle.bq_load.specs.Imports.{is_private, global_by}
use Rattle.bq_load.specs.Loading.{LoadingParts}
use Rattle.bq_load.specs.Views.{ModuleView, FailedView}
use Rattle.bq_builtin_machine.specs.Refusals.{when}

-- a symbol that a load asks for: F34 for a private name, also where there is none, and then F33
abbrev pub exporting : List (Option ResolvedFile) → Option ModuleView → Name → List (Option LoadFault)
exporting resolved m name = when (is_private name) PrivateSymbol ∷ when (not (is_some (global_by resolved m name))) NoSymbol ∷ []

-- why a module failed, if it did
abbrev pub failure : Result ModuleView FailedView → Option FaultKind
failure (Ok m) = None
failure (Err m) = Some m.fault.kind

-- F36: each module that is loaded has a value
abbrev pub load_failed : {A B : Type 0} → Result A B → Option FaultKind
load_failed (Ok vs) = None
load_failed (Err l) = Some LoadFailed

-- its own fault: of its file, of a symbol that it loads, or of its statements
abbrev pub own_failure : LoadingParts → ℕ → Result (List ModuleView) ℕ → Option FaultKind
own_failure x m (Ok vs) = failure (means x m vs)
own_failure x m (Err l) = None

-- a module: that it is cyclic (F35), that it is too deep (F38), that a load of it failed (F36), and then its own fault
abbrev pub loading : LoadingParts → Loads → ℕ → List (Option FaultKind)
loading x p m =
    when (is_cyclic p m) CycleReached
    ∷ when (is_too_deep p m) LoadDepth
    ∷ load_failed (load_values (outcome (means x) p) (row p m))
    ∷ own_failure x m (load_values (outcome (means x) p) (row p m))
    ∷ []
