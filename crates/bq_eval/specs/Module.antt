-- What the evaluation of a file ends in (Starlark specification, "Module execution", "Freezing a value").
use Rattle.std.specs.Prelude.{ℕ, ◌+◌, ◌==◌, cond, List, [], ◌∷◌, ◌++◌, fold, Option, Some, None}
use Rattle.bq_base.specs.Fault.{eval_fault_number}
use Rattle.bq_source.specs.StringLiteral.{quoted}
use Rattle.bq_base.specs.declared.fault.Fault.{Fault}
use Rattle.bq_base.specs.declared.fault.EvalFault.{EvalFault}
use Rattle.bq_base.specs.declared.fault.EvalFault.TheVariants as f
use Rattle.bq_resolve_scope.specs.Names.{Name}
use Rattle.bq_resolve_scope.specs.declared.file.ResolvedFile.{ResolvedFile}
use Rattle.bq_value.specs.Cells.{StoreView, FrozenView, frozen, loading}
use Rattle.bq_value.specs.Datum.{Datum, or_none}
use Rattle.bq_builtin_machine.specs.Action.{Run, done, stopped}
use Rattle.bq_builtin_machine.specs.State.{State, Stop, started}
use Rattle.bq_eval_spec.specs.Frame.{Frame}
use Rattle.bq_eval_spec.specs.Slots.{module_meaning, frozen_units}
use Rattle.bq_eval.specs.Calling.{HostCalls}
use Rattle.bq_eval.specs.Runtime.{primitives}

-- A file that was evaluated: its frozen module, and what it printed. Or one that failed: why, and what it had printed by then.
pub data Ended : Type 0 where
  evaluated : FrozenView → List (List ℕ) → Ended
  failed : Fault EvalFault → List (List ℕ) → Ended

-- ---- before

-- the store of a module that has made nothing yet, and loads these
abbrev pub first_store : ℕ → List FrozenView → StoreView
first_store number loaded = fold loading (record { own = number; cells = []; loaded = [] }) loaded

-- ---- after

-- of globals of these names, from the one of that slot on; no file that ran to its end has one that no statement has bound
abbrev pub values_from : ℕ → List Name → Frame → List Datum
values_from slot [] globals = []
values_from slot (name ∷ names) globals = or_none (globals slot) ∷ values_from (slot + 1) names globals

-- the values of a file's globals, and then of what its loads bind: its functions use both
unfoldable pub frozen_values : ResolvedFile → List Datum → Frame → List Datum
frozen_values file imports globals = values_from 0 file.globals globals ++ imports

-- `fail` has its message as its detail
abbrev pub detail_of : EvalFault → List ℕ → List ℕ
detail_of kind message = cond (eval_fault_number kind == eval_fault_number f.Fail) (quoted message) []

-- the fault that an evaluation stopped with, as a line of the report tells it
abbrev pub fault_of : Stop → Fault EvalFault
fault_of why = record { kind = why.kind; line = why.line; detail = detail_of why.kind why.message }

-- what the run of a file ends in: its frozen module, in which loaded values come after globals, or its fault; and its prints
abbrev pub ended : {W : Type 0} → ResolvedFile → List Datum → Run (State × W) Frame → Ended
ended file imports (done globals s) = evaluated (frozen s.0.store file.globals (frozen_values file imports globals)) s.0.prints
ended file imports (stopped why) = failed (fault_of why) why.prints

-- what a host keeps where a file ran to its end
abbrev pub kept_after : {W : Type 0} → Run (State × W) Frame → Option W
kept_after (done globals s) = Some s.1
kept_after (stopped why) = None

-- A file among those of the workspace runs as the module of that number, with the frozen modules that it loads and a
-- value for each clause of its loads: its statements in order, on a fresh machine, with `limit` steps.
unfoldable pub module_run : {W : Type 0} → List Name → HostCalls W → List (Option ResolvedFile) → ℕ → ResolvedFile → List FrozenView → List Datum → ℕ → W → Run (State × W) Frame
module_run rules host files number file loaded imports limit kept =
    module_meaning (primitives rules host) (frozen_units files loaded) number file imports (started (first_store number loaded) limit, kept)
