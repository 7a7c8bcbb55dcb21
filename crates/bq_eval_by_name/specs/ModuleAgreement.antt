-- The law of names for calls and modules: what they mean by names, the resolved ones mean by slots.
use Rattle.std.specs.Prelude.{◌≡◌, ℕ, List, [], ◌∷◌, Some, Ok, ◌<◌, length, drop, slice_get}
use Rattle.bq_parse_grammar.specs.declared.tree.TopLevel.{TopLevel}
use Rattle.bq_resolve_scope.specs.declared.file.Function.{Function}
use Rattle.bq_resolve_scope.specs.declared.file.ResolvedFile.{ResolvedFile}
use Rattle.bq_resolve_scope.specs.Files.{resolved}
use Rattle.bq_resolve_scope.specs.Names.{place_among, global_names}
use Rattle.bq_resolve_scope.specs.Scope.{FileParts}
use Rattle.bq_resolve_scope.specs.Universe.{UniverseParts}
use Rattle.bq_resolve_laws.specs.Resolution.{Maybe}
use Rattle.bq_value.specs.Datum.{Datum}
use Rattle.bq_builtin_machine.specs.Args.{Passed}
use Rattle.bq_eval_spec.specs.Frame.{Frame, Surroundings}
use Rattle.bq_eval_spec.specs.Primitives.{Primitives}
use Rattle.bq_eval_spec.specs.Calls.{Units, signature, entry, calls}
use Rattle.bq_eval_spec.specs.Slots as slots
use Rattle.bq_eval_spec.specs.Slots.{by_slots}
use Rattle.bq_eval_spec.specs.ModuleByName as names
use Rattle.bq_eval_spec.specs.Names.{Env, Round, names_of, by_names}
use Rattle.bq_eval_by_name.specs.ExpressionAgreement.{CallsAgree}
use Rattle.bq_eval_by_name.specs.Alike.{Alike}
use Rattle.bq_eval_by_name.specs.Shows.{Reads, Shows}
use Rattle.bq_eval_by_name.specs.Units.{FunctionIs, UnitIs, UnitsAgree}

-- a function has the signature of the one that it resolves to
abbrev pub SignaturesAgree : Type 0
SignaturesAgree = (file : FileParts) (d f : Function) → FunctionIs file d f → signature d.parameters ≡ signature f.parameters

module _ {S : Type 0} (m : Primitives S) where
  -- What a call begins with says the same of the function's names: in the same state, or it has the same fault.
  abbrev pub EntriesAgree : Type 0
  EntriesAgree =
      (file : FileParts) (d f : Function) → FunctionIs file d f → (defaults : List Datum) (p : Passed) (s : S)
      → Alike (Shows (record { base = 0; names = names_of d } ∷ [])) (entry m by_names d defaults p s) (entry m by_slots f defaults p s)

  -- Where the modules are the same ones, calls mean the same, however many functions may still become active.
  abbrev pub CallsOfUnitsAgree : Type 0
  CallsOfUnitsAgree = (n : ℕ) (named : Units Round) (units : Units Surroundings) → UnitsAgree named units → CallsAgree (calls n m by_names named) (calls n m by_slots units)

  -- A file that resolves ends with the same values of its globals and in the same state, or with the same fault and prints.
  abbrev pub ModulesAgree : Type 0
  ModulesAgree =
      (named : Units Round) (units : Units Surroundings) → UnitsAgree named units → (number : ℕ) (universe : UniverseParts) (ts : List TopLevel) (r : ResolvedFile) → resolved universe ts ≡ Ok r
      → (loaded : List Datum) (s : S)
      → Alike (Reads (λ name. place_among name (global_names ts))) (names.module_meaning m named number universe ts loaded s) (slots.module_meaning m units number r loaded s)

-- A module that has ended, with the same values of its globals by names and by slots, is the same frozen module: of the frozen one's values
-- the first are those of its globals, and after them come those of what its loads bind.
abbrev pub FrozenUnitsAgree : Type 0
FrozenUnitsAgree =
    (universe : UniverseParts) (ts : List TopLevel) (r : ResolvedFile) → resolved universe ts ≡ Ok r → (globals : Env) (frame : Frame) (values : List Datum)
    → Reads (λ name. place_among name (global_names ts)) globals frame → ((k : ℕ) → k < length r.globals → frame k ≡ slice_get values k)
    → Maybe UnitIs (Some (names.frozen_unit universe ts (drop (length r.globals) values) globals)) (slots.frozen_unit (Some (Some r)) (Some values))
