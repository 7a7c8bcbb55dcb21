-- The law of names for evaluations: on the machine and the host of a program a file ends by names in what it ends in by slots.
use Rattle.std.specs.Prelude.{◌≡◌, ℕ, true, List, length, drop, Option, Ok}
use Rattle.bq_resolve_scope.specs.declared.file.ResolvedFile.{ResolvedFile}
use Rattle.bq_resolve_scope.specs.Files.{resolved}
use Rattle.bq_resolve_scope.specs.Names.{Name, has, global_names}
use Rattle.bq_resolve_laws.specs.Files.{ParsedFile, ResolvesTo}
use Rattle.bq_resolve_laws.specs.Resolution.{InOrder, Maybe}
use Rattle.bq_value.specs.Cells.{FrozenView}
use Rattle.bq_value.specs.Datum.{Datum}
use Rattle.bq_eval_spec.specs.Slots as slots
use Rattle.bq_eval_spec.specs.Names.{Env}
use Rattle.bq_eval_by_name.specs.Ends.{Gives, AllBound, PartsAreCounted}
use Rattle.bq_eval_by_name.specs.Units.{UnitsAgree}
use Rattle.bq_eval.specs.Calling.{HostCalls}
use Rattle.bq_eval.specs.Runtime.{primitives}
use Rattle.bq_eval.specs.Module as by_slots
use Rattle.bq_eval_by_name.specs.Evaluation.{values_named, frozen_units, frozen_values, ended, kept_after, module_run}

-- each of these files resolves to the one in its place, or there is neither
abbrev pub AllResolveTo : List (Option ParsedFile) → List (Option ResolvedFile) → Type 0
AllResolveTo files resolved_files = InOrder (Maybe ResolvesTo) files resolved_files

-- A frozen module is read as it ended: each global that was bound has its value, and what its loads bind has the values that they gave.
abbrev pub FrozenModulesKeepTheirGlobals : Type 0
FrozenModulesKeepTheirGlobals =
    (file : ParsedFile) (imports : List Datum) (globals : Env) → AllBound (global_names file.statements) globals
    → ((name : Name) → has (global_names file.statements) name ≡ true → values_named (global_names file.statements) (frozen_values file imports globals) name ≡ globals name)
    × (drop (length (global_names file.statements)) (frozen_values file imports globals) ≡ imports)

-- the frozen modules that are reached from these are the same ones by names and by slots, whatever they are
abbrev pub FrozenUnitsAgree : Type 0
FrozenUnitsAgree = (files : List (Option ParsedFile)) (resolved_files : List (Option ResolvedFile)) → AllResolveTo files resolved_files → (loaded : List FrozenView) → UnitsAgree (frozen_units files loaded) (slots.frozen_units resolved_files loaded)

module _ {W : Type 0} (rules : List Name) (host : HostCalls W) where
  -- A file ends by names in what the file that it resolves to ends in by slots: the same frozen module, with the same cells, values of its
  -- globals and kinds of its rules, or the same fault; the same prints; and the host keeps the same.
  abbrev pub EvaluationsAgree : Type 0
  EvaluationsAgree =
      (files : List (Option ParsedFile)) (resolved_files : List (Option ResolvedFile)) → AllResolveTo files resolved_files → (number : ℕ) (file : ParsedFile) (resolved_file : ResolvedFile) → ResolvesTo file resolved_file
      → (loaded : List FrozenView) (imports : List Datum) (limit : ℕ) (kept : W)
      → (ended file imports (module_run rules host files number file loaded imports limit kept) ≡ by_slots.ended resolved_file imports (by_slots.module_run rules host resolved_files number resolved_file loaded imports limit kept))
      × (kept_after (module_run rules host files number file loaded imports limit kept) ≡ by_slots.kept_after (by_slots.module_run rules host resolved_files number resolved_file loaded imports limit kept))

  -- Where a file ends, each of its globals is bound.
  abbrev pub GlobalsAreBound : Type 0
  GlobalsAreBound =
      (files : List (Option ParsedFile)) (number : ℕ) (file : ParsedFile) (resolved_file : ResolvedFile) → resolved file.universe file.statements ≡ Ok resolved_file
      → (loaded : List FrozenView) (imports : List Datum) (limit : ℕ) (kept : W)
      → Gives (AllBound (global_names file.statements)) (module_run rules host files number file loaded imports limit kept)

  -- the program's unpacking gives as many elements as there are targets
  abbrev pub UnpackingCounts : Type 0
  UnpackingCounts = PartsAreCounted (primitives rules host)
