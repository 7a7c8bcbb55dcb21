-- Files do not get stuck, where they and the files of the frozen modules are sound.
use Rattle.std.proofs.Common.{◌≡◌, ℕ, zero, suc, ◌==◌, Bool, true, false, List, [], ◌∷◌, Option, Some, None, slice_get, refl, subst}
use Rattle.std.specs.Prelude.{if◌then◌else◌}
use Rattle.std.specs.List.{AllByRecursion}
use Rattle.bq_parse_grammar.specs.declared.tree.Expr.{Expr}
use Rattle.bq_resolve_scope.specs.declared.file.Def.{Def}
use Rattle.bq_resolve_scope.specs.declared.file.FileLine.{FileLine}
use Rattle.bq_resolve_scope.specs.declared.file.Outside.{Outside}
use Rattle.bq_resolve_scope.specs.declared.file.Outside.TheVariants as outside
use Rattle.bq_resolve_scope.specs.declared.file.ResolvedFile.{ResolvedFile}
use Rattle.bq_resolve_scope.specs.Names.{max_layers}
use Rattle.bq_value.specs.Cells.{FrozenView}
use Rattle.bq_value.specs.Datum.{Datum, function, data_of}
use Rattle.bq_eval_spec.specs.Frame.{Frame, Surroundings, empty, fill}
use Rattle.bq_eval_spec.specs.Primitives.{Primitives, change}
use Rattle.bq_eval_spec.specs.Calls.{Units, calls, max_active}
use Rattle.bq_eval_spec.specs.Module as language
use Rattle.bq_eval_spec.specs.Module.{Own, with_own, def_stmt, outside_by, top_level, top_levels, eval_top}
use Rattle.bq_eval_spec.specs.Slots.{by_slots, slot_of, own_of, frozen_unit, globals_among, frozen_units, first_globals, module_meaning}
use Rattle.bq_eval_spec.specs.Statements.{Flow, next}
use Rattle.bq_eval_spec.specs.Trees.{Eval}
use Rattle.bq_eval_laws.proofs.Unstuck.{value_of, both}
use Rattle.bq_eval_laws.specs.Stuck.{Unstuck, NeverStuck}
use Rattle.bq_eval_laws.specs.Sound.{ExprIsSound, FunctionIsSound, OutsideIsSound, LineIsSound, FileIsSound}
use Rattle.bq_eval_laws.proofs.UnstuckExpressionRules.{eval_rule, values_rule}
use Rattle.bq_eval_laws.proofs.UnstuckStatementRules.{Ends, go_on_rule, line_rule}
use Rattle.bq_eval_laws.proofs.UnstuckCallRules.{UnitIsSound, UnitsAreSound, calls_rule}

module _ {S : Type 0} (m : Primitives S) (L : NeverStuck m) (own : Own Surroundings Frame) where
  module _ (eval : Eval S Frame) (evals : (x : Expr) → ExprIsSound x → (env : Frame) → Unstuck Datum (eval x env)) where
    def_rule : (d : Def) → AllByRecursion ExprIsSound d.defaults → Ends m L (def_stmt m by_slots own eval d)
    unfolding def_stmt
    def_rule d all globals =
        both _ _ _ _ (L.of_step 1)
        (λ _. both _ _ _ _ (values_rule m L ExprIsSound eval evals d.defaults all globals [])
        (λ vs. value_of (Flow × Frame) (next, fill globals (slot_of d.name.referent) (function own.number d.function d.name.name (data_of vs)))))

    outside_rule : (x : Outside) → OutsideIsSound x → Ends m L (outside_by m by_slots own eval x)
    outside_rule (outside.Simple xs) h globals = line_rule m L eval evals xs h globals
    outside_rule (outside.Def d) h globals = def_rule d h.1 globals

    top_level_rule : (l : FileLine) → LineIsSound l → Ends m L (top_level m by_slots own eval l)
    unfolding top_level
    top_level_rule l h globals = both (Unit {0}) _ (change m (m.at_line l.line)) _ (λ s. tt) (λ _. outside_rule l.statement h globals)

    top_levels_rule : (ls : List FileLine) → AllByRecursion LineIsSound ls → Ends m L (top_levels m by_slots own eval ls)
    unfolding top_levels
    top_levels_rule [] all globals = value_of (Flow × Frame) (next, globals)
    top_levels_rule (l ∷ ls) all globals = both _ _ _ _ (top_level_rule l all.0 globals) (λ r. go_on_rule m L (top_levels m by_slots own eval ls) (top_levels_rule ls all.1) r)

  -- the file's own functions, and those of the frozen modules
  own_sound : (units : Units Surroundings) → UnitsAreSound m L units → AllByRecursion FunctionIsSound own.functions → (globals : Frame) → UnitsAreSound m L (with_own units own globals)
  own_sound units sound functions globals n = by_own (n == own.number)
    where
      by_own : (t : Bool) → UnitIsSound m L (if t then Some (record { functions = own.functions; round = own.round globals }) else units n)
      by_own true = functions
      by_own false = sound n

  top_rule : (units : Units Surroundings) → UnitsAreSound m L units → AllByRecursion FunctionIsSound own.functions → (x : Expr) → ExprIsSound x → (globals : Frame) → Unstuck Datum (eval_top m by_slots units own x globals)
  unfolding eval_top
  top_rule units sound functions x h globals =
      eval_rule m L (calls max_active m by_slots (with_own units own globals)) (calls_rule m L max_active (with_own units own globals) (own_sound units sound functions globals)) (own.round globals) max_layers x h empty

-- a file that is there is sound
abbrev pub IfSound : Option ResolvedFile → Type 0
IfSound (Some file) = FileIsSound file
IfSound _ = Unit {0}

-- the files of frozen modules are sound, and so are the modules
frozen_by : (o : Option (Option ResolvedFile)) (v : Option (List Datum)) → ((file : ResolvedFile) → o ≡ Some (Some file) → FileIsSound file) → {S : Type 0} (m : Primitives S) (L : NeverStuck m) → UnitIsSound m L (frozen_unit o v)
frozen_by None v h m L = tt
frozen_by (Some None) v h m L = tt
frozen_by (Some (Some file)) None h m L = tt
frozen_by (Some (Some file)) (Some values) h m L = (h file refl).1

at_number : (code : List (Option ResolvedFile)) → AllByRecursion IfSound code → (n : ℕ) (file : ResolvedFile) → slice_get code n ≡ Some (Some file) → FileIsSound file
at_number [] all n file e = absurd (let no : ⊥ = cc in no)
at_number (Some r ∷ code) all zero file e = let same : r ≡ file = cc in subst (λ z. FileIsSound z) same all.0
at_number (None ∷ code) all zero file e = absurd (let no : ⊥ = cc in no)
at_number (c ∷ code) all (suc n) file e = at_number code all.1 n file e

module _ {S : Type 0} (m : Primitives S) (L : NeverStuck m) where
  frozen_sound : (code : List (Option ResolvedFile)) → AllByRecursion IfSound code → (loaded : List FrozenView) → UnitsAreSound m L (frozen_units code loaded)
  unfolding frozen_units
  frozen_sound code all loaded n = frozen_by (slice_get code n) (globals_among n loaded) (at_number code all n) m L

  pub module_rule : (code : List (Option ResolvedFile)) → AllByRecursion IfSound code → (frozen : List FrozenView) (number : ℕ) (file : ResolvedFile) → FileIsSound file → (loaded : List Datum)
      → Unstuck Frame (module_meaning m (frozen_units code frozen) number file loaded)
  unfolding module_meaning language.module_meaning
  module_rule code all frozen number file sound loaded =
      let own : Own Surroundings Frame = own_of number file loaded in
      both _ _ _ _
      (top_levels_rule m L own (eval_top m by_slots (frozen_units code frozen) own) (top_rule m L own (frozen_units code frozen) (frozen_sound code all frozen) sound.1) file.statements sound.0 (first_globals file.loads loaded empty))
      (λ r. value_of Frame r.1)
