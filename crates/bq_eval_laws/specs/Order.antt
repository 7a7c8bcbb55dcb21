-- The laws of order: expressions in an expression are evaluated from left to right, each in the state that those before it leave
-- (Starlark specification, "Expressions").
use Rattle.std.specs.Prelude.{◌≡◌, ◌≢◌, List, [], ◌∷◌, length, true, false, Some}
use Rattle.bq_parse_grammar.specs.declared.tree.Comparison.{Comparison}
use Rattle.bq_parse_grammar.specs.declared.tree.Operator.{Operator}
use Rattle.bq_parse_grammar.specs.declared.tree.Expr.{Expr}
use Rattle.bq_parse_grammar.specs.declared.tree.Choice.{Choice, out-Choice}
use Rattle.bq_parse_grammar.specs.declared.tree.Operation.{Operation}
use Rattle.bq_parse_grammar.specs.declared.tree.Pair.{Pair, out-Pair}
use Rattle.bq_parse_grammar.specs.declared.tree.TargetExpr.{TargetExpr}
use Rattle.bq_parse_grammar.specs.declared.tree.Operator.TheVariants as operator
use Rattle.bq_value.specs.Contents.{Contents, items}
use Rattle.bq_value.specs.Datum.{Datum, tuple, data_of}
use Rattle.bq_builtin_machine.specs.Action.{done, stopped, ◌>>=◌, pure}
use Rattle.bq_builtin_machine.specs.State.{Stop}
use Rattle.bq_eval_spec.specs.Primitives.{Primitives, change}
use Rattle.bq_eval_spec.specs.Targets.{place, assign}
use Rattle.bq_eval_spec.specs.Comprehensions.{Turn, turns, for_clause, pair_element}
use Rattle.bq_eval_spec.specs.Expressions.{list_display, tuple_display, pair, pairs_each, operation_by, operation, operations, binary, compare, conditional, index, slice}
use Rattle.bq_eval_spec.specs.Statements.{next, assign_stmt}
use Rattle.bq_eval_spec.specs.Trees.{Eval}
use Rattle.bq_eval_spec.specs.Environment.{Scoping}

module _ {S V : Type 0} (eval : Eval S V) (env : V) where
  -- these expressions, evaluated one after another from the first of these states on, have these values, and leave the second state
  pub data Evaluates : List Expr → S → List Datum → S → Type 0 where
    none_left : {s : S} → Evaluates [] s [] s
    and_then : {x : Expr} {xs : List Expr} {v : Datum} {vs : List Datum} {s t u : S} → eval x env s ≡ done v t → Evaluates xs t vs u → Evaluates (x ∷ xs) s (v ∷ vs) u

  -- one of them stops, after those before it
  pub data Stops : List Expr → S → Stop → Type 0 where
    here : {x : Expr} {xs : List Expr} {s : S} {why : Stop} → eval x env s ≡ stopped why → Stops (x ∷ xs) s why
    later : {x : Expr} {xs : List Expr} {v : Datum} {s t : S} {why : Stop} → eval x env s ≡ done v t → Stops xs t why → Stops (x ∷ xs) s why

module _ {S R V : Type 0} (m : Primitives S) (scoping : Scoping R V) where
  -- the elements of a list or tuple, after the step of the display
  abbrev pub DisplaysInOrder : Type 0
  DisplaysInOrder =
      (eval : Eval S V) (env : V) (xs : List Expr) (vs : List Datum) (r s t : S) → m.step 1 r ≡ done tt s → Evaluates eval env xs s vs t
      → (list_display m eval xs env r ≡ m.make (items vs) t) × (tuple_display m eval xs env r ≡ done (tuple (data_of vs)) t)

  -- what stops first ends the display
  abbrev pub DisplaysStop : Type 0
  DisplaysStop = (eval : Eval S V) (env : V) (xs : List Expr) (why : Stop) (r s : S) → m.step 1 r ≡ done tt s → Stops eval env xs s why → list_display m eval xs env r ≡ stopped why

  -- a key, and then its value
  abbrev pub PairsInOrder : Type 0
  PairsInOrder =
      (eval : Eval S V) (env : V) (p : Pair) (c : Contents) (k v : Datum) (s t : S) → Evaluates eval env ((out-Pair p).key ∷ (out-Pair p).value ∷ []) s (k ∷ v ∷ []) t
      → pair m eval p env c s ≡ m.add_pair c k v t

  -- one pair after another
  abbrev pub DictDisplaysInOrder : Type 0
  DictDisplaysInOrder =
      (eval : Eval S V) (env : V) (p : Pair) (ps : List Pair) (c d : Contents) (s t : S) → pair m eval p env c s ≡ done d t → pairs_each m eval (p ∷ ps) env c s ≡ pairs_each m eval ps env d t

  -- the first operand of a chain, and then its operators, one after another
  abbrev pub ChainsInOrder : Type 0
  ChainsInOrder =
      (eval : Eval S V) (env : V) (x : Expr) (os : List Operation) (v : Datum) (r s t : S) → m.step (length os) r ≡ done tt s → eval x env s ≡ done v t
      → binary m eval x os env r ≡ operations m eval os env v t

  abbrev pub OperatorsInOrder : Type 0
  OperatorsInOrder =
      (eval : Eval S V) (env : V) (o : Operation) (os : List Operation) (v w : Datum) (s t : S) → operation m eval o env v s ≡ done w t
      → operations m eval (o ∷ os) env v s ≡ operations m eval os env w t

  -- a key of a comprehension, and then its value
  abbrev pub MadePairsInOrder : Type 0
  MadePairsInOrder =
      (eval : Eval S V) (env : V) (p : Pair) (c : Contents) (k v : Datum) (s t : S) → Evaluates eval env ((out-Pair p).key ∷ (out-Pair p).value ∷ []) s (k ∷ v ∷ []) t
      → pair_element m eval p env c s ≡ (m.put_pair c k v >>= λ d. pure (d, env)) t

  -- the left operand, which has the value `v` in this state, and then the right one
  abbrev pub OperandsInOrder : Type 0
  OperandsInOrder =
      (eval : Eval S V) (env : V) (o : Operator) (y : Expr) (v w : Datum) (s t : S) → o ≢ operator.And → o ≢ operator.Or → Evaluates eval env (y ∷ []) s (w ∷ []) t
      → operation_by m eval o y env v s ≡ m.binary o v w t

  abbrev pub ComparesInOrder : Type 0
  ComparesInOrder =
      (eval : Eval S V) (env : V) (x : Expr) (o : Comparison) (y : Expr) (v w : Datum) (r s t : S) → m.step 1 r ≡ done tt s → Evaluates eval env (x ∷ y ∷ []) s (v ∷ w ∷ []) t
      → compare m eval x o y env r ≡ m.compare o v w t

  -- of an operand that has the value `v` in this state
  abbrev pub IndexedInOrder : Type 0
  IndexedInOrder = (eval : Eval S V) (env : V) (i : Expr) (v w : Datum) (s t : S) → Evaluates eval env (i ∷ []) s (w ∷ []) t → index m eval i env v s ≡ m.index v w t

  abbrev pub SlicedInOrder : Type 0
  SlicedInOrder =
      (eval : Eval S V) (env : V) (i j k : Expr) (v x y z : Datum) (s t : S) → Evaluates eval env (i ∷ j ∷ k ∷ []) s (x ∷ y ∷ z ∷ []) t
      → slice m eval (Some i) (Some j) (Some k) env v s ≡ m.slice v x y z t

  -- the condition, and then what it chooses alone
  abbrev pub ConditionsFirst : Type 0
  ConditionsFirst =
      (eval : Eval S V) (env : V) (c : Choice) (cs : List Choice) (x : Expr) (v : Datum) (r s t : S) → m.step 1 r ≡ done tt s → eval (out-Choice c).condition env s ≡ done v t
      → (m.truth v t ≡ true → conditional m eval (c ∷ cs) x env r ≡ eval (out-Choice c).value env t)
      × (m.truth v t ≡ false → conditional m eval (c ∷ cs) x env r ≡ conditional m eval cs x env t)

  -- the right side of an assignment, and then its target
  abbrev pub RightSidesFirst : Type 0
  RightSidesFirst =
      (eval : Eval S V) (env : V) (target : TargetExpr) (x : Expr) (v : Datum) (s t : S) → eval x env s ≡ done v t
      → assign_stmt m scoping eval target x env s ≡ (assign m scoping eval target v env >>= λ new. pure (next, new)) t

  -- of a target `x[i]`
  abbrev pub PlacesInOrder : Type 0
  PlacesInOrder = (eval : Eval S V) (env : V) (x i : Expr) (v w : Datum) (s t : S) → Evaluates eval env (x ∷ i ∷ []) s (v ∷ w ∷ []) t → place m eval x i env [] s ≡ done ((v, w) ∷ []) t

  -- what a `for` clause goes over, in the environment `there`, and then its turns
  abbrev pub IterablesFirst : Type 0
  IterablesFirst =
      (eval : Eval S V) (there env : V) (target : TargetExpr) (x : Expr) (inner : Turn S V) (c : Contents) (v : Datum) (vs : List Datum) (s t u : S) → eval x there s ≡ done v t
      → m.begin_walk v t ≡ done vs u → for_clause m scoping eval target x there inner env c s ≡ (turns m scoping target inner vs env c >>= λ r. change m (m.end_walk v) >>= λ _. pure r) u
