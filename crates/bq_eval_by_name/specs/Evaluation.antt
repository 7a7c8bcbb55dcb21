-- What the evaluation of a file ends in, by names: what bq_eval says, over the file as it is parsed (Starlark specification, "Module
-- execution", "Freezing a value"). Nothing here speaks of slots.
use Rattle.std.specs.Prelude.{ℕ, List, [], ◌∷◌, ◌++◌, length, drop, map, Option, Some, None, slice_get, bytes_eq, if◌then◌else◌}
use Rattle.bq_resolve_scope.specs.Names.{Name, global_names}
use Rattle.bq_resolve_laws.specs.Files.{ParsedFile}
use Rattle.bq_value.specs.Cells.{FrozenView, frozen}
use Rattle.bq_value.specs.Datum.{Datum, none, or_none}
use Rattle.bq_builtin_machine.specs.Action.{Run, done, stopped}
use Rattle.bq_builtin_machine.specs.State.{State, started}
use Rattle.bq_eval_spec.specs.Calls.{TreeUnit, Units}
use Rattle.bq_eval_spec.specs.Slots.{globals_among}
use Rattle.bq_eval_spec.specs.ModuleByName as meaning
use Rattle.bq_eval_spec.specs.Names.{Env, Round}
use Rattle.bq_eval.specs.Calling.{HostCalls}
use Rattle.bq_eval.specs.Runtime.{primitives}
use Rattle.bq_eval.specs.Module.{Ended, evaluated, failed, first_store, fault_of}

-- ---- before

-- the names that have the values in their places; a name past the last value is not bound
unfoldable pub values_named : List Name → List Datum → Env
values_named [] vs name = None
values_named (n ∷ ns) [] name = if bytes_eq name n then Some None else values_named ns [] name
values_named (n ∷ ns) (v ∷ vs) name = if bytes_eq name n then Some (Some v) else values_named ns vs name

-- A frozen module: its globals have the values that it ended with. After these come those of what its loads bind.
abbrev pub frozen_by : ParsedFile → List Datum → TreeUnit Round
frozen_by file values =
    meaning.frozen_unit file.universe file.statements (drop (length (global_names file.statements)) values) (values_named (global_names file.statements) values)

-- a loaded file with its globals, for the calls of its functions
abbrev pub frozen_unit : Option (Option ParsedFile) → Option (List Datum) → Option (TreeUnit Round)
frozen_unit (Some (Some file)) (Some values) = Some (frozen_by file values)
frozen_unit _ _ = None

-- the modules that these frozen ones reach, by their files
unfoldable pub frozen_units : List (Option ParsedFile) → List FrozenView → Units Round
frozen_units files loaded = λ n. frozen_unit (slice_get files n) (globals_among n loaded)

-- ---- after

-- the values of a file's globals, in the order in which it first binds them (each has one where a file ends), and then of what its loads bind: its
-- functions use both
unfoldable pub frozen_values : ParsedFile → List Datum → Env → List Datum
frozen_values file imports globals = map (λ name. elim (globals name) [ None ↦ none | Some v ↦ or_none v ]) (global_names file.statements) ++ imports

-- how an evaluation ends: with its frozen globals and its prints, or with a fault and the prints before it
abbrev pub ended : {W : Type 0} → ParsedFile → List Datum → Run (State × W) Env → Ended
ended file imports (done globals s) = evaluated (frozen s.0.store (global_names file.statements) (frozen_values file imports globals)) s.0.prints
ended file imports (stopped why) = failed (fault_of why) why.prints

-- what a host keeps where a file ran to its end
abbrev pub kept_after : {W : Type 0} → Run (State × W) Env → Option W
kept_after (done globals s) = Some s.1
kept_after (stopped why) = None

-- A file among those of the workspace runs as the module of that number, with the frozen modules that it loads and a
-- value for each clause of its loads: its statements in order, on a fresh machine, with `limit` steps.
unfoldable pub module_run : {W : Type 0} → List Name → HostCalls W → List (Option ParsedFile) → ℕ → ParsedFile → List FrozenView → List Datum → ℕ → W → Run (State × W) Env
module_run rules host files number file loaded imports limit kept =
    meaning.module_meaning (primitives rules host) (frozen_units files loaded) number file.universe file.statements imports (started (first_store number loaded) limit, kept)
