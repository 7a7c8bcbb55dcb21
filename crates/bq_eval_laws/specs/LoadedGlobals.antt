-- The law of names that a file loads and binds too: such a name is a global, which begins with the loaded value. The other globals begin
-- without a value (Starlark specification, "Name binding and variables").
use Rattle.std.specs.Prelude.{◌≡◌, ℕ, Bool, false, ◌==◌, List, ◌∷◌, ◌++◌, length, slice_get, Option, Some, None}
use Rattle.std.specs.List.{AllByRecursion, flat_map}
use Rattle.bq_resolve_scope.specs.declared.file.ResolvedFile.{ResolvedFile}
use Rattle.bq_resolve_scope.specs.declared.loads.LoadStmt.{LoadStmt}
use Rattle.bq_resolve_scope.specs.declared.loads.LoadedSymbol.{LoadedSymbol}
use Rattle.bq_value.specs.Datum.{Datum}
use Rattle.bq_eval_spec.specs.Frame.{Frame, Surroundings}
use Rattle.bq_eval_spec.specs.Primitives.{Primitives}
use Rattle.bq_eval_spec.specs.Calls.{Units}
use Rattle.bq_eval_spec.specs.Module as meaning
use Rattle.bq_eval_spec.specs.Slots.{by_slots, own_of, module_meaning}

-- the names that a file loads, in order
abbrev pub loaded_names : ResolvedFile → List LoadedSymbol
loaded_names file = flat_map (λ (l : LoadStmt). l.clauses) file.loads

-- there is a place, and it is k
abbrev pub is_at : ℕ → Option ℕ → Bool
is_at k None = false
is_at k (Some other) = k == other

-- whether a loaded name is that global
abbrev pub is_global : ℕ → LoadedSymbol → Bool
is_global k x = is_at k x.global

-- The globals of a file are these before its first statement. Of two loaded names of one global the later one counts; a file that is
-- resolved has no such names.
pub record BeginLoaded (file : ResolvedFile) (loaded : List Datum) (globals : Frame) : Type 0 where
  pub loaded_ones : (before after : List LoadedSymbol) (x : LoadedSymbol) (k : ℕ) (v : Datum) → loaded_names file ≡ before ++ x ∷ after → x.global ≡ Some k
      → AllByRecursion (λ y. is_global k y ≡ false) after → slice_get loaded (length before) ≡ Some v → globals k ≡ Some v
  pub others : (k : ℕ) → AllByRecursion (λ y. is_global k y ≡ false) (loaded_names file) → globals k ≡ None

-- a file's statements run from such globals on, where its loads have these values
abbrev pub LoadedGlobalsBegin : {S : Type 0} → Primitives S → Type 0
LoadedGlobalsBegin {S = S} m =
    (units : Units Surroundings) (number : ℕ) (file : ResolvedFile) (loaded : List Datum)
    → (globals : Frame) × BeginLoaded file loaded globals
    × ((s : S) → module_meaning m units number file loaded s ≡ meaning.module_meaning m by_slots units (own_of number file loaded) file.statements globals s)
