-- A relation that respects the rules holds of comprehensions.
use Rattle.std.proofs.Common.{List, [], ◌∷◌}
use Rattle.std.specs.List.{AllByRecursion}
use Rattle.bq_parse_grammar.specs.declared.tree.Expr.{Expr}
use Rattle.bq_parse_grammar.specs.declared.tree.Argument.TheOpen.{Clause-F}
use Rattle.bq_parse_grammar.specs.declared.tree.Clause.{Clause, out-Clause}
use Rattle.bq_parse_grammar.specs.declared.tree.Pair.{Pair, out-Pair}
use Rattle.bq_parse_grammar.specs.declared.tree.TargetExpr.{TargetExpr}
use Rattle.bq_parse_grammar.specs.declared.tree.ComprehensionFrame.{ComprehensionFrame}
use Rattle.bq_resolve_scope.specs.Names.{ClauseLayer}
use Rattle.bq_value.specs.Contents.{Contents}
use Rattle.bq_value.specs.Datum.{Datum}
use Rattle.bq_eval_spec.specs.Primitives.{Primitives}
use Rattle.bq_eval_spec.specs.Comprehensions.{Turn, element, pair_element, turn, turns, for_clause, if_clause, clause_by, clauses, first_clauses, comprehension}
use Rattle.bq_eval_spec.specs.Trees.{Eval}
use Rattle.bq_eval_spec.specs.Environment.{Scoping}
use Rattle.bq_eval_laws.specs.Layers.{PairParts, ClauseLayerParts, ClauseParts}
use Rattle.bq_eval_laws.proofs.Respects.{Relation, Respects}
use Rattle.bq_eval_laws.proofs.TargetRules.{variables_rule}

module _ {S Round V : Type 0} (m : Primitives S) (scoping : Scoping Round V) (K : Relation S) (R : Respects m K) (P : Expr → Type 0) (eval other : Eval S V)
    (evals : (x : Expr) → P x → (env : V) → K Datum (eval x env) (other x env)) where
  -- the turns of one and of the other
  abbrev pub TurnsAlike : Turn S V → Turn S V → Type 0
  TurnsAlike t u = (env : V) (c : Contents) → K (Contents × V) (t env c) (u env c)

  pub element_rule : (x : Expr) → P x → TurnsAlike (element m eval x) (element m other x)
  unfolding element
  element_rule x h env c = R.of_both _ _ _ _ _ _ (evals x h env) (λ v. R.of_both _ _ _ _ _ _ (R.of_add c v) (λ d. R.of_value (Contents × V) (d, env)))

  pub made_pair_rule : (p : Pair) → PairParts P p → TurnsAlike (pair_element m eval p) (pair_element m other p)
  unfolding pair_element
  made_pair_rule p h env c =
      R.of_both _ _ _ _ _ _ (evals (out-Pair p).key h.0 env)
      (λ k. R.of_both _ _ _ _ _ _ (evals (out-Pair p).value h.1 env)
      (λ v. R.of_both _ _ _ _ _ _ (R.of_put_pair c k v) (λ d. R.of_value (Contents × V) (d, env))))

  -- ---- clauses

  module _ (inner outer : Turn S V) (inners : TurnsAlike inner outer) where
    turn_rule : (t : TargetExpr) (v : Datum) → TurnsAlike (turn m scoping t inner v) (turn m scoping t outer v)
    unfolding turn
    turn_rule t v env c = R.of_both _ _ _ _ _ _ (R.of_step 1) (λ _. R.of_both _ _ _ _ _ _ (variables_rule m scoping K R t v env) (λ new. inners new c))

    turns_rule : (t : TargetExpr) (vs : List Datum) → TurnsAlike (turns m scoping t inner vs) (turns m scoping t outer vs)
    unfolding turns
    turns_rule t [] env c = R.of_value (Contents × V) (c, env)
    turns_rule t (v ∷ vs) env c = R.of_both _ _ _ _ _ _ (turn_rule t v env c) (λ r. turns_rule t vs r.1 r.0)

    for_rule : (t : TargetExpr) (x : Expr) → P x → (there : V) → TurnsAlike (for_clause m scoping eval t x there inner) (for_clause m scoping other t x there outer)
    unfolding for_clause
    for_rule t x h there env c =
        R.of_both _ _ _ _ _ _ (evals x h there)
        (λ v. R.of_both _ _ _ _ _ _ (R.of_begin_walk v)
        (λ vs. R.of_both _ _ _ _ _ _ (turns_rule t vs env c)
        (λ r. R.of_both _ _ _ _ _ _ (R.of_end_walk v) (λ _. R.of_value (Contents × V) r))))

    if_rule : (x : Expr) → P x → TurnsAlike (if_clause m scoping eval x inner) (if_clause m scoping other x outer)
    unfolding if_clause
    if_rule x h env c = R.of_both _ _ _ _ _ _ (evals x h env) (λ v. R.of_choice (Contents × V) v _ _ _ _ (inners env c) (R.of_value (Contents × V) (c, env)))

    clause_by_rule : (o : ClauseLayer) → ClauseLayerParts P o → (there : V) → TurnsAlike (clause_by m scoping eval o there inner) (clause_by m scoping other o there outer)
    clause_by_rule (Clause-F.For t x) h there = for_rule t x h there
    clause_by_rule (Clause-F.If x) h there = if_rule x h

  module _ (inner outer : Turn S V) (inners : TurnsAlike inner outer) where
    clauses_rule : (cs : List Clause) → AllByRecursion (ClauseParts P) cs → TurnsAlike (clauses m scoping eval cs inner) (clauses m scoping other cs outer)
    unfolding clauses
    clauses_rule [] all env c = inners env c
    clauses_rule (x ∷ xs) all env c = clause_by_rule (clauses m scoping eval xs inner) (clauses m scoping other xs outer) (clauses_rule xs all.1) (out-Clause x) all.0 env env c

    first_rule : (cs : List Clause) → AllByRecursion (ClauseParts P) cs → (there : V) → TurnsAlike (first_clauses m scoping eval cs there inner) (first_clauses m scoping other cs there outer)
    unfolding first_clauses
    first_rule [] all there env c = inners env c
    first_rule (x ∷ xs) all there env c = clause_by_rule (clauses m scoping eval xs inner) (clauses m scoping other xs outer) (clauses_rule xs all.1) (out-Clause x) all.0 there env c

    pub comprehension_rule : (none : Contents) (cs : List Clause) → AllByRecursion (ClauseParts P) cs → (own : ComprehensionFrame) (env : V)
        → K Datum (comprehension m scoping eval none inner cs own env) (comprehension m scoping other none outer cs own env)
    unfolding comprehension
    comprehension_rule none cs all own env =
        R.of_both _ _ _ _ _ _ (R.of_step 1) (λ _. R.of_both _ _ _ _ _ _ (first_rule cs all env (scoping.in_comprehension env cs own) none) (λ r. R.of_make r.0))
