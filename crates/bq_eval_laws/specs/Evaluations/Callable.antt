-- Whose functions can be called: those of a module's own file, and of each module that it reaches by its loads.
use Rattle.std.specs.Prelude.{◌≡◌, ◌⊎◌, ℕ, List, Option, Some, IsSome, Contains, slice_get}
use Rattle.bq_resolve_scope.specs.Names.{Name}
use Rattle.bq_resolve_scope.specs.declared.file.ResolvedFile.{ResolvedFile}
use Rattle.bq_value.specs.Cells.{FrozenView}
use Rattle.bq_value.specs.Datum.{Datum}
use Rattle.bq_eval_spec.specs.Slots.{frozen_units}
use Rattle.bq_eval.specs.Calling.{HostCalls}
use Rattle.bq_eval_laws.specs.Evaluations.Files.{FrozenAre, ends}

-- The functions of the module `home` are there for a file of that number, which loads these modules: they are its own, or those of a
-- module that it reaches. A call of a function of another module would be F40.
abbrev pub IsCallable : List (Option ResolvedFile) → ℕ → List FrozenView → ℕ → Type 0
IsCallable code number loaded home = (home ≡ number) ⊎ IsSome (frozen_units code loaded home)

-- Of what a module reached while it was evaluated, each module that loads it reaches all.
abbrev pub FunctionsStayCallable : {W : Type 0} → List Name → HostCalls W → Type 0
FunctionsStayCallable {W = W} names host =
    (code : List (Option ResolvedFile)) (number : ℕ) (file : ResolvedFile) → slice_get code number ≡ Some (Some file) → (loaded : List FrozenView) (imports : List Datum) (kept : W) (limit home : ℕ)
    → IsCallable code number loaded home
    → FrozenAre (ends names host code number file loaded imports kept limit) (λ f. (loader : ℕ) (others : List FrozenView) → Contains others f → IsCallable code loader others home)
