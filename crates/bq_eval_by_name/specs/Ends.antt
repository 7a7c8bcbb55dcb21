-- Where a file ends, each of its globals is bound: each of its statements runs once, and binds its names.
use Rattle.std.specs.Prelude.{◌≡◌, ℕ, List, length, true, Some, Ok}
use Rattle.bq_parse_grammar.specs.declared.tree.TopLevel.{TopLevel}
use Rattle.bq_resolve_scope.specs.declared.file.ResolvedFile.{ResolvedFile}
use Rattle.bq_resolve_scope.specs.Files.{resolved}
use Rattle.bq_resolve_scope.specs.Names.{Name, has, global_names}
use Rattle.bq_resolve_scope.specs.Universe.{UniverseParts}
use Rattle.bq_value.specs.Datum.{Datum}
use Rattle.bq_builtin_machine.specs.Action.{Run, done, stopped}
use Rattle.bq_eval_spec.specs.Primitives.{Primitives}
use Rattle.bq_eval_spec.specs.Calls.{Units}
use Rattle.bq_eval_spec.specs.ModuleByName.{module_meaning}
use Rattle.bq_eval_spec.specs.Names.{Env, Round}

-- of the value that a run gives, if it gives one
abbrev pub Gives : {S A : Type 0} → (A → Type 0) → Run S A → Type 0
Gives P (done a s) = P a
Gives P (stopped why) = Unit {0}

-- each of these names has a value
abbrev pub AllBound : List Name → Env → Type 0
AllBound names env = (name : Name) → has names name ≡ true → (v : Datum) × (env name ≡ Some (Some v))

module _ {S : Type 0} (m : Primitives S) where
  -- unpacking gives as many elements as there are targets (F57)
  abbrev pub PartsAreCounted : Type 0
  PartsAreCounted = (n : ℕ) (v : Datum) (s : S) → Gives (λ vs. length vs ≡ n) (m.parts n v s)

  abbrev pub GlobalsAreBound : Type 0
  GlobalsAreBound =
      PartsAreCounted → (units : Units Round) (number : ℕ) (universe : UniverseParts) (ts : List TopLevel) (r : ResolvedFile) → resolved universe ts ≡ Ok r → (loaded : List Datum) (s : S)
      → Gives (AllBound (global_names ts)) (module_meaning m units number universe ts loaded s)
