-- What an evaluation sees of files, and what its value reaches.
use Rattle.std.specs.Prelude.{◌≡◌, ℕ, List, Option, IsSome, slice_get}
use Rattle.bq_resolve_scope.specs.Names.{Name}
use Rattle.bq_resolve_scope.specs.declared.file.ResolvedFile.{ResolvedFile}
use Rattle.bq_value.specs.Cells.{FrozenView, globals_at}
use Rattle.bq_value.specs.Datum.{Datum}
use Rattle.bq_board.specs.Cycles.{Reaches}
use Rattle.bq_board.specs.Graph.{Loads}
use Rattle.bq_eval_spec.specs.Slots.{globals_among}
use Rattle.bq_eval.specs.Calling.{HostCalls}
use Rattle.bq_eval.specs.Module.{module_run}
use Rattle.bq_load_order.specs.Outcome.{outcome}
use Rattle.bq_load_order.specs.declared.outcome.Outcome.TheVariants.{Loaded}
use Rattle.bq_load.specs.Evaluation.{means}
use Rattle.bq_load.specs.Loading.{LoadingParts}
use Rattle.bq_load.specs.Views.{ModuleView}

-- the two lists have the same file for each module that these reach
abbrev pub AgreeOn : List FrozenView → (files others : List (Option ResolvedFile)) → Type 0
AgreeOn loaded files others = (n : ℕ) → IsSome (globals_among n loaded) → slice_get files n ≡ slice_get others n

-- a module runs alike with two lists of resolved files that agree on the modules that the loaded ones reach
abbrev pub EvaluationsSeeWhatIsReached : Type 0 → Type 0
EvaluationsSeeWhatIsReached W =
    (names : List Name) (host : HostCalls W) (loaded : List FrozenView) (files others : List (Option ResolvedFile)) → AgreeOn loaded files others
    → (number : ℕ) (file : ResolvedFile) (imports : List Datum) (limit : ℕ) (kept : W) → module_run names host files number file loaded imports limit kept ≡ module_run names host others number file loaded imports limit kept

-- the value of module m reaches the globals of no module but m and those that loads lead to from m
abbrev pub ValuesReachWhatIsLoaded : Type 0
ValuesReachWhatIsLoaded = (x : LoadingParts) (p : Loads) (m : ℕ) (v : ModuleView) → outcome (means x) p m ≡ Loaded v → (n : ℕ) → IsSome (globals_at v.frozen n) → Reaches p m n
