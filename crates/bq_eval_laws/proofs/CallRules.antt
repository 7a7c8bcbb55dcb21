-- A relation that respects the rules holds of calls.
use Rattle.std.proofs.Common.{ℕ, zero, suc, List, [], ◌∷◌, Bool, true, false, Option, Some, None, Result, Ok, Err, slice_get}
use Rattle.bq_base.specs.declared.fault.EvalFault.{EvalFault}
use Rattle.bq_base.specs.declared.fault.EvalFault.TheVariants as f
use Rattle.bq_parse_grammar.specs.declared.tree.Expr.{Expr}
use Rattle.bq_parse_grammar.specs.declared.tree.Identifier.{Identifier}
use Rattle.bq_resolve_scope.specs.declared.file.Function.{Function}
use Rattle.bq_resolve_scope.specs.declared.file.Formal.{Formal}
use Rattle.bq_resolve_scope.specs.Names.{max_layers}
use Rattle.bq_resolve_scope.specs.declared.file.Formal.TheVariants as formal
use Rattle.bq_value.specs.Contents.{pairs}
use Rattle.bq_value.specs.Datum.{Datum, none, tuple, cell, function, function_of, built_in, rule_function, data_of, list_of}
use Rattle.bq_builtin_machine.specs.Action.{Action}
use Rattle.bq_builtin_machine.specs.Args.{Passed}
use Rattle.bq_builtin_machine.specs.Binding.{BoundView, bind}
use Rattle.bq_eval_spec.specs.Primitives.{Primitives, given_by}
use Rattle.bq_eval_spec.specs.Expressions.{eval_in}
use Rattle.bq_eval_spec.specs.Statements.{run_in}
use Rattle.bq_eval_spec.specs.Calls.{TreeUnit, Units, has_star_star, signature, Filling, answered, with_value, with_default, fill_by, fill_parameter, fill_parameters, keywords_of, entry, body_of, run_body, call_function, known, call_at, apply_by, apply, calls}
use Rattle.bq_eval_spec.specs.Trees.{Eval, Calls}
use Rattle.bq_eval_spec.specs.Environment.{Scoping}
use Rattle.bq_eval_laws.proofs.Anything.{Holds, each}
use Rattle.bq_eval_laws.proofs.Respects.{Relation, Respects}
use Rattle.bq_eval_laws.proofs.ExpressionRules.{eval_rule}
use Rattle.bq_eval_laws.proofs.StatementRules.{block_rule, run_rule}

module _ {S Round V : Type 0} (m : Primitives S) (scoping : Scoping Round V) (K : Relation S) (R : Respects m K) where
  -- the relation holds of an action and itself
  abbrev pub Itself : (A : Type 0) → Action S A → Type 0
  Itself A a = K A a a

  given_rule : (A : Type 0) (r : Result A EvalFault) → Itself A (given_by m r)
  given_rule A (Ok x) = R.of_value A x
  given_rule A (Err kind) = R.of_stop A kind

  -- ---- parameters

  with_value_rule : (n : Identifier) (vs : List (Option Datum)) (x : Filling V) → Itself (Filling V) (with_value m scoping n vs x)
  with_value_rule n [] x = R.of_stop (Filling V) f.Args
  with_value_rule n (None ∷ vs) x = R.of_stop (Filling V) f.Args
  with_value_rule n (Some v ∷ vs) x = R.of_value (Filling V) (record x { values = vs; env = scoping.bind x.env n v })

  with_default_rule : (n : Identifier) (vs : List (Option Datum)) (ds : List Datum) (x : Filling V) → Itself (Filling V) (with_default m scoping n vs ds x)
  with_default_rule n [] ds x = R.of_stop (Filling V) f.Args
  with_default_rule n (None ∷ vs) [] x = R.of_stop (Filling V) f.Args
  with_default_rule n (Some v ∷ vs) [] x = R.of_stop (Filling V) f.Args
  with_default_rule n (None ∷ vs) (d ∷ ds) x = R.of_value (Filling V) (record x { values = vs; defaults = ds; env = scoping.bind x.env n d })
  with_default_rule n (Some v ∷ vs) (d ∷ ds) x = R.of_value (Filling V) (record x { values = vs; defaults = ds; env = scoping.bind x.env n v })

  fill_by_rule : (p : Formal) (x : Filling V) → Itself (Filling V) (fill_by m scoping p x)
  fill_by_rule (formal.Plain n) x = with_value_rule n x.values x
  fill_by_rule (formal.Default n) x = with_default_rule n x.values x.defaults x
  fill_by_rule formal.BareStar x = R.of_value (Filling V) x
  fill_by_rule (formal.Star n) x = R.of_value (Filling V) (record x { env = scoping.bind x.env n x.rest })
  fill_by_rule (formal.StarStar n) x = R.of_value (Filling V) (record x { env = scoping.bind x.env n x.keywords })

  fill_one_rule : (p : Formal) (x : Filling V) → Itself (Filling V) (fill_parameter m scoping p x)
  unfolding fill_parameter
  fill_one_rule p x = fill_by_rule p x

  fill_rule : (ps : List Formal) (x : Filling V) → Itself (Filling V) (fill_parameters m scoping ps x)
  unfolding fill_parameters
  fill_rule [] x = R.of_value (Filling V) x
  fill_rule (p ∷ ps) x = R.of_both _ _ _ _ _ _ (fill_one_rule p x) (λ y. fill_rule ps y)

  keywords_rule : (has : Bool) (ps : List (Datum × Datum)) → Itself Datum (keywords_of m has ps)
  unfolding keywords_of
  keywords_rule true ps = R.of_make (pairs ps)
  keywords_rule false ps = R.of_value Datum none

  entry_rule : (d : Function) (ds : List Datum) (p : Passed) → Itself V (entry m scoping d ds p)
  unfolding entry
  entry_rule d ds p =
      R.of_both _ _ _ _ _ _ (given_rule BoundView (bind (signature d.parameters) p))
      (λ b. R.of_both _ _ _ _ _ _ (keywords_rule (has_star_star d.parameters) b.keywords)
      (λ k. R.of_both _ _ _ _ _ _ (fill_rule d.parameters (record { values = b.values; defaults = ds; rest = tuple (data_of b.rest); keywords = k; env = scoping.in_function d })) (λ x. R.of_value V x.env)))

  -- ---- calls

  -- of every call
  abbrev pub Every : Calls S → Type 0
  Every call = (v : Datum) (p : Passed) → Itself Datum (call v p)

  -- of the calls that may still be made inside, if any may
  abbrev EveryInner : Option (Calls S) → Type 0
  EveryInner None = Unit {0}
  EveryInner (Some call) = Every call

  body_rule : (call : Calls S) → Every call → (u : TreeUnit Round) (d : Function) (env : V) → Itself Datum (body_of m scoping call u d env)
  unfolding body_of
  body_rule call calls u d env =
      let eval : Eval S V = eval_in m scoping call u.round in
      let evals : (x : Expr) (e : V) → Itself Datum (eval x e) = eval_rule m scoping K R call calls u.round max_layers in
      R.of_both _ _ _ _ _ _ (block_rule m scoping K R eval evals Holds (run_in m scoping eval) (run_in m scoping eval) (λ x _. run_rule m scoping K R eval evals max_layers x) d.body (each Holds (λ _. tt) d.body) env)
      (λ r. R.of_value Datum (answered r.0))

  run_body_rule : (inner : Option (Calls S)) → EveryInner inner → (u : TreeUnit Round) (d : Function) (env : V) → Itself Datum (run_body m scoping inner u d env)
  unfolding run_body
  run_body_rule None inners u d env = R.of_stop Datum f.CallDepth
  run_body_rule (Some call) inners u d env = body_rule call inners u d env

  function_rule : (inner : Option (Calls S)) → EveryInner inner → (home place : ℕ) (u : TreeUnit Round) (d : Function) (ds : List Datum) (p : Passed) → Itself Datum (call_function m scoping inner home place u d ds p)
  unfolding call_function
  function_rule inner inners home place u d ds p =
      R.of_both _ _ _ _ _ _ (entry_rule d ds p)
      (λ env. R.of_both _ _ _ _ _ _ (R.of_enter home place)
      (λ _. R.of_both _ _ _ _ _ _ (run_body_rule inner inners u d env) (λ v. R.of_both _ _ _ _ _ _ R.of_leave (λ _. R.of_value Datum v))))

  known_rule : (A B : Type 0) (o : Option A) (go : A → Action S B) → ((x : A) → Itself B (go x)) → Itself B (known m o go)
  known_rule A B None go goes = R.of_stop B f.WrongType
  known_rule A B (Some x) go goes = goes x

  call_at_rule : (units : Units Round) (inner : Option (Calls S)) → EveryInner inner → (home place : ℕ) (ds : List Datum) (p : Passed) → Itself Datum (call_at m scoping units inner home place ds p)
  unfolding call_at
  call_at_rule units inner inners home place ds p =
      known_rule (TreeUnit Round) Datum (units home) (λ u. known m (slice_get u.functions place) (λ d. call_function m scoping inner home place u d ds p))
      (λ u. known_rule Function Datum (slice_get u.functions place) (λ d. call_function m scoping inner home place u d ds p) (λ d. function_rule inner inners home place u d ds p))

  apply_by_rule : (units : Units Round) (inner : Option (Calls S)) → EveryInner inner → (v : Datum) (p : Passed) → Itself Datum (apply_by m scoping units inner v p)
  apply_by_rule units inner inners (function home place name ds) p = call_at_rule units inner inners home place (list_of ds) p
  apply_by_rule units inner inners (built_in b) p = R.of_built_in (function_of b) p
  apply_by_rule units inner inners (rule_function g) p = R.of_rule_function g p
  apply_by_rule units inner inners (cell home number) p = R.of_cell home number p
  apply_by_rule units inner inners v p = R.of_stop Datum f.WrongType

  apply_rule : (units : Units Round) (inner : Option (Calls S)) → EveryInner inner → Every (apply m scoping units inner)
  unfolding apply
  apply_rule units inner inners v p = apply_by_rule units inner inners v p

  pub calls_rule : (left : ℕ) (units : Units Round) → Every (calls left m scoping units)
  unfolding calls
  calls_rule zero units v p = apply_rule units None tt v p
  calls_rule (suc left) units v p = apply_rule units (Some (calls left m scoping units)) (calls_rule left units) v p
