-- A run that begins with a new machine.
use Rattle.std.proofs.Common.{◌≡◌, ◌∙◌, ℕ, List, ap}
use Rattle.bq_resolve_scope.specs.Names.{Name}
use Rattle.bq_value.specs.Cells.{StoreView}
use Rattle.bq_builtin_machine.specs.Action.{Run}
use Rattle.bq_builtin_machine.specs.State.{State, started}
use Rattle.bq_eval_spec.specs.Frame.{Frame}
use Rattle.bq_eval_spec.specs.Slots.{module_meaning, frozen_units}
use Rattle.bq_eval_rules.specs.Round.{views_of, lent_files}
use Rattle.bq_eval.specs.Calling.{HostCalls}
use Rattle.bq_eval.specs.Runtime.{primitives}
use Rattle.bq_eval.specs.Module.{first_store, module_run}
use Rattle.bq_eval.specs.Outcomes.{run_of}
use Rattle.bq_eval.specs.declared.module.ResolvedModule.{ResolvedModule}

-- the run from this state of a machine, and what the host keeps
abbrev pub run_from : {W : Type 0} → List Name → HostCalls W → ResolvedModule → State → W → Run (State × W) Frame
run_from rules host m machine kept = module_meaning (primitives rules host) (frozen_units (lent_files m.files.now) (views_of m.loaded.now)) m.number m.file.now m.imports.now (machine, kept)

pub run_starts : {W : Type 0} (rules : List Name) (host : HostCalls W) (m : ResolvedModule) (limit : ℕ) (kept : W) (store : StoreView) (machine : State)
    → store ≡ first_store m.number (views_of m.loaded.now) → machine ≡ started store limit → run_from rules host m machine kept ≡ run_of rules host m limit kept
unfolding module_run
run_starts rules host m limit kept store machine of_store of_machine = ap (λ s. run_from rules host m s kept) (of_machine ∙ ap (λ st. started st limit) of_store)
