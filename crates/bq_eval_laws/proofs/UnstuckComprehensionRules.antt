-- Comprehensions do not get stuck, where the variables of their clauses are names.
use Rattle.std.proofs.Common.{List, [], ◌∷◌}
use Rattle.std.specs.List.{AllByRecursion}
use Rattle.bq_parse_grammar.specs.declared.tree.Argument.TheOpen.{Clause-F}
use Rattle.bq_parse_grammar.specs.declared.tree.Clause.{Clause, out-Clause}
use Rattle.bq_parse_grammar.specs.declared.tree.ComprehensionFrame.{ComprehensionFrame}
use Rattle.bq_parse_grammar.specs.declared.tree.Expr.{Expr}
use Rattle.bq_parse_grammar.specs.declared.tree.Pair.{Pair, out-Pair}
use Rattle.bq_parse_grammar.specs.declared.tree.TargetExpr.{TargetExpr}
use Rattle.bq_resolve_scope.specs.Names.{ClauseLayer}
use Rattle.bq_value.specs.Contents.{Contents}
use Rattle.bq_value.specs.Datum.{Datum}
use Rattle.bq_eval_spec.specs.Frame.{Frame}
use Rattle.bq_eval_spec.specs.Primitives.{Primitives}
use Rattle.bq_eval_spec.specs.Comprehensions.{Turn, element, pair_element, turn, turns, for_clause, if_clause, clause_by, clauses, first_clauses, comprehension}
use Rattle.bq_eval_spec.specs.Slots.{by_slots, opened}
use Rattle.bq_eval_spec.specs.Trees.{Eval}
use Rattle.bq_eval_laws.specs.Layers.{PairParts, ClauseLayerParts, ClauseParts}
use Rattle.bq_eval_laws.proofs.Unstuck.{value_of, both, choice_of}
use Rattle.bq_eval_laws.specs.Fits.{VariablesOfLayer, Variables}
use Rattle.bq_eval_laws.specs.Stuck.{Unstuck, NeverStuck}
use Rattle.bq_eval_laws.specs.Sound.{AreNames}
use Rattle.bq_eval_laws.proofs.UnstuckTargetRules.{variables_rule}

module _ {S : Type 0} (m : Primitives S) (L : NeverStuck m) (P : Expr → Type 0) (eval : Eval S Frame)
    (evals : (x : Expr) → P x → (env : Frame) → Unstuck Datum (eval x env)) where
  -- of each turn
  abbrev pub EachTurn : Turn S Frame → Type 0
  EachTurn t = (env : Frame) (c : Contents) → Unstuck (Contents × Frame) (t env c)

  pub element_rule : (x : Expr) → P x → EachTurn (element m eval x)
  unfolding element
  element_rule x h env c = both _ _ _ _ (evals x h env) (λ v. both _ _ _ _ (L.of_add c v) (λ d. value_of (Contents × Frame) (d, env)))

  pub pair_rule : (p : Pair) → PairParts P p → EachTurn (pair_element m eval p)
  unfolding pair_element
  pair_rule p h env c =
      both _ _ _ _ (evals (out-Pair p).key h.0 env)
      (λ k. both _ _ _ _ (evals (out-Pair p).value h.1 env)
      (λ v. both _ _ _ _ (L.of_put_pair c k v) (λ d. value_of (Contents × Frame) (d, env))))

  -- ---- clauses

  module _ (inner : Turn S Frame) (inners : EachTurn inner) where
    turn_rule : (t : TargetExpr) → AreNames t → (v : Datum) → EachTurn (turn m by_slots t inner v)
    unfolding turn
    turn_rule t names v env c = both _ _ _ _ (L.of_step 1) (λ _. both _ _ _ _ (variables_rule m L t names v env) (λ new. inners new c))

    turns_rule : (t : TargetExpr) → AreNames t → (vs : List Datum) → EachTurn (turns m by_slots t inner vs)
    unfolding turns
    turns_rule t names [] env c = value_of (Contents × Frame) (c, env)
    turns_rule t names (v ∷ vs) env c = both _ _ _ _ (turn_rule t names v env c) (λ r. turns_rule t names vs r.1 r.0)

    for_rule : (t : TargetExpr) (x : Expr) → AreNames t → P x → (there : Frame) → EachTurn (for_clause m by_slots eval t x there inner)
    unfolding for_clause
    for_rule t x names h there env c =
        both _ _ _ _ (evals x h there)
        (λ v. both _ _ _ _ (L.of_begin_walk v)
        (λ vs. both _ _ _ _ (turns_rule t names vs env c)
        (λ r s. tt)))

    if_rule : (x : Expr) → P x → EachTurn (if_clause m by_slots eval x inner)
    unfolding if_clause
    if_rule x h env c = both _ _ _ _ (evals x h env) (λ v. choice_of m (Contents × Frame) v _ _ (inners env c) (value_of (Contents × Frame) (c, env)))

    clause_by_rule : (o : ClauseLayer) → ClauseLayerParts P o → VariablesOfLayer AreNames o → (there : Frame) → EachTurn (clause_by m by_slots eval o there inner)
    clause_by_rule (Clause-F.For t x) h names there = for_rule t x names h there
    clause_by_rule (Clause-F.If x) h names there = if_rule x h

  module _ (inner : Turn S Frame) (inners : EachTurn inner) where
    clauses_rule : (cs : List Clause) → AllByRecursion (ClauseParts P) cs → AllByRecursion (Variables AreNames) cs → EachTurn (clauses m by_slots eval cs inner)
    unfolding clauses
    clauses_rule [] all names env c = inners env c
    clauses_rule (x ∷ xs) all names env c = clause_by_rule (clauses m by_slots eval xs inner) (clauses_rule xs all.1 names.1) (out-Clause x) all.0 names.0 env env c

    first_rule : (cs : List Clause) → AllByRecursion (ClauseParts P) cs → AllByRecursion (Variables AreNames) cs → (there : Frame) → EachTurn (first_clauses m by_slots eval cs there inner)
    unfolding first_clauses
    first_rule [] all names there env c = inners env c
    first_rule (x ∷ xs) all names there env c = clause_by_rule (clauses m by_slots eval xs inner) (clauses_rule xs all.1 names.1) (out-Clause x) all.0 names.0 there env c

    pub comprehension_rule : (first : Contents) (cs : List Clause) → AllByRecursion (ClauseParts P) cs → AllByRecursion (Variables AreNames) cs → (own : ComprehensionFrame) (env : Frame)
        → Unstuck Datum (comprehension m by_slots eval first inner cs own env)
    unfolding comprehension
    comprehension_rule first cs all names own env =
        both _ _ _ _ (L.of_step 1) (λ _. both _ _ _ _ (first_rule cs all names env (opened env own) first) (λ r. L.of_make r.0))
