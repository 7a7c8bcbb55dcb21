-- Calls do not get stuck, where the functions of all modules are sound.
use Rattle.std.proofs.Common.{ℕ, zero, suc, List, [], ◌∷◌, Bool, true, false, Option, Some, None, Result, Ok, Err, slice_get, refl}
use Rattle.std.specs.List.{AllByRecursion}
use Rattle.bq_base.specs.declared.fault.EvalFault.{EvalFault}
use Rattle.bq_base.specs.declared.fault.EvalFault.TheVariants as f
use Rattle.bq_parse_grammar.specs.declared.tree.Expr.{Expr}
use Rattle.bq_parse_grammar.specs.declared.tree.Identifier.{Identifier}
use Rattle.bq_resolve_scope.specs.declared.file.Formal.{Formal}
use Rattle.bq_resolve_scope.specs.declared.file.Formal.TheVariants as formal
use Rattle.bq_resolve_scope.specs.declared.file.Function.{Function}
use Rattle.bq_resolve_scope.specs.Names.{max_layers}
use Rattle.bq_value.specs.Contents.{pairs}
use Rattle.bq_value.specs.Datum.{Datum, none, tuple, cell, function, function_of, built_in, rule_function, data_of, list_of}
use Rattle.bq_builtin_machine.specs.Action.{Action}
use Rattle.bq_builtin_machine.specs.Args.{Passed}
use Rattle.bq_builtin_machine.specs.Binding.{BoundView, bind}
use Rattle.bq_eval_spec.specs.Frame.{Frame, Surroundings, empty, fill}
use Rattle.bq_eval_spec.specs.Primitives.{Primitives, given_by}
use Rattle.bq_eval_spec.specs.Calls.{TreeUnit, Units, has_star_star, signature, Filling, answered, with_value, with_default, fill_by, fill_parameter, fill_parameters, keywords_of, entry, body_of, run_body, call_function, known, call_at, apply_by, apply, calls}
use Rattle.bq_eval_spec.specs.Expressions.{eval_in}
use Rattle.bq_eval_spec.specs.Slots.{by_slots, slot_of}
use Rattle.bq_eval_spec.specs.Statements.{run_in}
use Rattle.bq_eval_spec.specs.Trees.{Eval, Calls}
use Rattle.bq_eval_laws.proofs.Unstuck.{value_of, stop_of, both}
use Rattle.bq_eval_laws.specs.Stuck.{Unstuck, NeverStuck}
use Rattle.bq_eval_laws.specs.Sound.{ExprIsSound, StmtIsSound, FunctionIsSound}
use Rattle.bq_eval_laws.proofs.Arguments.{Fine, bind_fine}
use Rattle.bq_eval_laws.proofs.UnstuckExpressionRules.{eval_rule}
use Rattle.bq_eval_laws.proofs.UnstuckStatementRules.{block_rule, run_rule}

module _ {S : Type 0} (m : Primitives S) (L : NeverStuck m) where
  -- the relation holds of an action and itself
  abbrev pub Itself : (A : Type 0) → Action S A → Type 0
  Itself A a = Unstuck A a

  given_rule : (A : Type 0) (r : Result A EvalFault) → Fine r → Itself A (given_by m r)
  given_rule A (Ok x) h = value_of A x
  given_rule A (Err kind) h = stop_of m A kind h

  -- ---- parameters

  with_value_rule : (n : Identifier) (vs : List (Option Datum)) (x : Filling Frame) → Itself (Filling Frame) (with_value m by_slots n vs x)
  with_value_rule n [] x = stop_of m (Filling Frame) f.Args refl
  with_value_rule n (None ∷ vs) x = stop_of m (Filling Frame) f.Args refl
  with_value_rule n (Some v ∷ vs) x = value_of (Filling Frame) (record x { values = vs; env = fill x.env (slot_of n.referent) v })

  with_default_rule : (n : Identifier) (vs : List (Option Datum)) (ds : List Datum) (x : Filling Frame) → Itself (Filling Frame) (with_default m by_slots n vs ds x)
  with_default_rule n [] ds x = stop_of m (Filling Frame) f.Args refl
  with_default_rule n (None ∷ vs) [] x = stop_of m (Filling Frame) f.Args refl
  with_default_rule n (Some v ∷ vs) [] x = stop_of m (Filling Frame) f.Args refl
  with_default_rule n (None ∷ vs) (d ∷ ds) x = value_of (Filling Frame) (record x { values = vs; defaults = ds; env = fill x.env (slot_of n.referent) d })
  with_default_rule n (Some v ∷ vs) (d ∷ ds) x = value_of (Filling Frame) (record x { values = vs; defaults = ds; env = fill x.env (slot_of n.referent) v })

  fill_by_rule : (p : Formal) (x : Filling Frame) → Itself (Filling Frame) (fill_by m by_slots p x)
  fill_by_rule (formal.Plain n) x = with_value_rule n x.values x
  fill_by_rule (formal.Default n) x = with_default_rule n x.values x.defaults x
  fill_by_rule formal.BareStar x = value_of (Filling Frame) x
  fill_by_rule (formal.Star n) x = value_of (Filling Frame) (record x { env = fill x.env (slot_of n.referent) x.rest })
  fill_by_rule (formal.StarStar n) x = value_of (Filling Frame) (record x { env = fill x.env (slot_of n.referent) x.keywords })

  fill_one_rule : (p : Formal) (x : Filling Frame) → Itself (Filling Frame) (fill_parameter m by_slots p x)
  unfolding fill_parameter
  fill_one_rule p x = fill_by_rule p x

  fill_rule : (ps : List Formal) (x : Filling Frame) → Itself (Filling Frame) (fill_parameters m by_slots ps x)
  unfolding fill_parameters
  fill_rule [] x = value_of (Filling Frame) x
  fill_rule (p ∷ ps) x = both _ _ _ _ (fill_one_rule p x) (λ y. fill_rule ps y)

  keywords_rule : (has : Bool) (ps : List (Datum × Datum)) → Itself Datum (keywords_of m has ps)
  unfolding keywords_of
  keywords_rule true ps = L.of_make (pairs ps)
  keywords_rule false ps = value_of Datum none

  entry_rule : (d : Function) (ds : List Datum) (p : Passed) → Itself Frame (entry m by_slots d ds p)
  unfolding entry
  entry_rule d ds p =
      both _ _ _ _ (given_rule BoundView (bind (signature d.parameters) p) (bind_fine (signature d.parameters) p))
      (λ b. both _ _ _ _ (keywords_rule (has_star_star d.parameters) b.keywords)
      (λ k. both _ _ _ _ (fill_rule d.parameters (record { values = b.values; defaults = ds; rest = tuple (data_of b.rest); keywords = k; env = empty })) (λ x. value_of Frame x.env)))

  -- ---- calls

  -- of every call
  abbrev pub Every : Calls S → Type 0
  Every call = (v : Datum) (p : Passed) → Itself Datum (call v p)

  -- of the calls that may still be made inside, if any may
  abbrev EveryInner : Option (Calls S) → Type 0
  EveryInner None = Unit {0}
  EveryInner (Some call) = Every call

  body_rule : (call : Calls S) → Every call → (u : TreeUnit Surroundings) (d : Function) → FunctionIsSound d → (env : Frame) → Itself Datum (body_of m by_slots call u d env)
  unfolding body_of FunctionIsSound
  body_rule call calls u d sound env =
      let eval : Eval S Frame = eval_in m by_slots call u.round in
      let evals : (x : Expr) → ExprIsSound x → (e : Frame) → Itself Datum (eval x e) = eval_rule m L call calls u.round max_layers in
      both _ _ _ _ (block_rule m L eval evals (StmtIsSound max_layers) (run_in m by_slots eval) (run_rule m L eval evals max_layers) d.body sound.1 env)
      (λ r. value_of Datum (answered r.0))

  run_body_rule : (inner : Option (Calls S)) → EveryInner inner → (u : TreeUnit Surroundings) (d : Function) → FunctionIsSound d → (env : Frame) → Itself Datum (run_body m by_slots inner u d env)
  unfolding run_body
  run_body_rule None inners u d sound env = stop_of m Datum f.CallDepth refl
  run_body_rule (Some call) inners u d sound env = body_rule call inners u d sound env

  function_rule : (inner : Option (Calls S)) → EveryInner inner → (home place : ℕ) (u : TreeUnit Surroundings) (d : Function) → FunctionIsSound d → (ds : List Datum) (p : Passed) → Itself Datum (call_function m by_slots inner home place u d ds p)
  unfolding call_function
  function_rule inner inners home place u d sound ds p =
      both _ _ _ _ (entry_rule d ds p)
      (λ env. both _ _ _ _ (L.of_enter home place)
      (λ _. both _ _ _ _ (run_body_rule inner inners u d sound env) (λ v s. tt)))

  -- the functions of the module of each number are sound
  abbrev pub UnitIsSound : Option (TreeUnit Surroundings) → Type 0
  UnitIsSound None = Unit {0}
  UnitIsSound (Some u) = AllByRecursion FunctionIsSound u.functions

  abbrev pub UnitsAreSound : Units Surroundings → Type 0
  UnitsAreSound units = (n : ℕ) → UnitIsSound (units n)

  -- one of sound functions is sound
  at_place : (inner : Option (Calls S)) → EveryInner inner → (home place : ℕ) (ds : List Datum) (p : Passed) (u : TreeUnit Surroundings) (fs : List Function) → AllByRecursion FunctionIsSound fs → (k : ℕ)
      → Itself Datum (known m (slice_get fs k) (λ d. call_function m by_slots inner home place u d ds p))
  at_place inner inners home place ds p u [] all k = stop_of m Datum f.WrongType refl
  at_place inner inners home place ds p u (d ∷ fs) all zero = function_rule inner inners home place u d all.0 ds p
  at_place inner inners home place ds p u (d ∷ fs) all (suc k) = at_place inner inners home place ds p u fs all.1 k

  in_unit : (inner : Option (Calls S)) → EveryInner inner → (home place : ℕ) (ds : List Datum) (p : Passed) (o : Option (TreeUnit Surroundings)) → UnitIsSound o
      → Itself Datum (known m o (λ u. known m (slice_get u.functions place) (λ d. call_function m by_slots inner home place u d ds p)))
  in_unit inner inners home place ds p None sound = stop_of m Datum f.WrongType refl
  in_unit inner inners home place ds p (Some u) sound = at_place inner inners home place ds p u u.functions sound place

  call_at_rule : (units : Units Surroundings) → UnitsAreSound units → (inner : Option (Calls S)) → EveryInner inner → (home place : ℕ) (ds : List Datum) (p : Passed) → Itself Datum (call_at m by_slots units inner home place ds p)
  unfolding call_at
  call_at_rule units sound inner inners home place ds p = in_unit inner inners home place ds p (units home) (sound home)

  apply_by_rule : (units : Units Surroundings) → UnitsAreSound units → (inner : Option (Calls S)) → EveryInner inner → (v : Datum) (p : Passed) → Itself Datum (apply_by m by_slots units inner v p)
  apply_by_rule units sound inner inners (function home place name ds) p = call_at_rule units sound inner inners home place (list_of ds) p
  apply_by_rule units sound inner inners (built_in b) p = L.of_built_in (function_of b) p
  apply_by_rule units sound inner inners (rule_function g) p = L.of_rule_function g p
  apply_by_rule units sound inner inners (cell home number) p = L.of_cell home number p
  apply_by_rule units sound inner inners v p = stop_of m Datum f.WrongType refl

  apply_rule : (units : Units Surroundings) → UnitsAreSound units → (inner : Option (Calls S)) → EveryInner inner → Every (apply m by_slots units inner)
  unfolding apply
  apply_rule units sound inner inners v p = apply_by_rule units sound inner inners v p

  pub calls_rule : (left : ℕ) (units : Units Surroundings) → UnitsAreSound units → Every (calls left m by_slots units)
  unfolding calls
  calls_rule zero units sound v p = apply_rule units sound None tt v p
  calls_rule (suc left) units sound v p = apply_rule units sound (Some (calls left m by_slots units)) (calls_rule left units sound) v p
