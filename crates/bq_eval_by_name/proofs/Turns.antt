-- What binds names, and the turns of comprehensions: they do the same in two kinds of environments, where the expressions in them do, and
-- where binding a name keeps what both have in common.
use Rattle.std.proofs.Common.{◌≡◌, ℕ, suc, List, [], ◌∷◌, refl, subst}
use Rattle.bq_parse_grammar.specs.declared.tree.Argument.TheOpen.{Clause-F, TargetExpr-F}
use Rattle.bq_parse_grammar.specs.declared.tree.Clause.{Clause, out-Clause}
use Rattle.bq_parse_grammar.specs.declared.tree.Expr.{Expr}
use Rattle.bq_parse_grammar.specs.declared.tree.Identifier.{Identifier}
use Rattle.bq_parse_grammar.specs.declared.tree.Pair.{Pair}
use Rattle.bq_parse_grammar.specs.declared.tree.TargetExpr.{TargetExpr, out-TargetExpr}
use Rattle.bq_resolve_scope.specs.Names.{TargetLayer, ClauseLayer, max_layers}
use Rattle.bq_value.specs.Contents.{Contents}
use Rattle.bq_value.specs.Datum.{Datum}
use Rattle.bq_eval_spec.specs.Primitives.{Primitives}
use Rattle.bq_eval_spec.specs.Comprehensions as forms
use Rattle.bq_eval_spec.specs.Comprehensions.{Turn}
use Rattle.bq_eval_spec.specs.Environment.{Scoping}
use Rattle.bq_eval_spec.specs.Targets as targets
use Rattle.bq_eval_spec.specs.Targets.{Places}
use Rattle.bq_eval_spec.specs.Trees.{Eval}
use Rattle.bq_eval_by_name.specs.Alike.{Alike}
use Rattle.bq_eval_by_name.proofs.Runs.{then_alike, then_same, then_both, then_pure, choice}
use Rattle.bq_eval_by_name.proofs.Walks.{Pairwise, same_length}
use Rattle.bq_eval_by_name.proofs.Parts.{ExprAgree, PairAgree}

module _ {S Q P V W : Type 0} (m : Primitives S) (left : Scoping Q V) (right : Scoping P W) (R : V → W → Type 0) where
  -- ---- targets

  abbrev pub Bound : V × Places → W × Places → Type 0
  Bound r q = R r.0 q.0 × (r.1 ≡ q.1)

  -- `R` still holds where a name is bound in both
  abbrev pub BindAlike : Identifier → Identifier → Type 0
  BindAlike i j = (env : V) (peer : W) → R env peer → (v : Datum) → R (left.bind env i v) (right.bind peer j v)

  abbrev pub BindAgree : ℕ → TargetExpr → TargetExpr → Type 0
  BindAgree n t u = (v : Datum) (env : V) (peer : W) (ps : Places) → R env peer → (s : S) → Alike Bound (targets.bind_to m left n t v env ps s) (targets.bind_to m right n u v peer ps s)

  -- a target's outermost layer
  abbrev pub BindLayer : ℕ → TargetLayer → TargetLayer → Type 0
  BindLayer n o p =
      (v : Datum) (env : V) (peer : W) (ps : Places) → R env peer → (s : S)
      → Alike Bound (targets.bind_by m left (targets.bind_to m left n) o v env ps s) (targets.bind_by m right (targets.bind_to m right n) p v peer ps s)

  pub layer_binds : (n : ℕ) (t u : TargetExpr) → BindLayer n (out-TargetExpr t) (out-TargetExpr u) → BindAgree (suc n) t u
  unfolding targets.bind_to targets.bind_target
  layer_binds n t u h = h

  pub name_binds : (n : ℕ) (i j : Identifier) → BindAlike i j → BindLayer n (TargetExpr-F.TargetExpr::Name i) (TargetExpr-F.TargetExpr::Name j)
  name_binds n i j keeps v env peer ps related s = (refl, (keeps env peer related v, refl))

  pub index_binds : (n : ℕ) (x i y j : Expr) → BindLayer n (TargetExpr-F.TargetExpr::Index x i) (TargetExpr-F.TargetExpr::Index y j)
  unfolding targets.bind_place
  index_binds n x i y j v env peer [] related s = refl
  index_binds n x i y j v env peer (p ∷ ps) related s = then_pure Bound (m.set_index p.0 p.1 v s) (λ _. (env, ps)) (λ _. (peer, ps)) (λ _. (related, refl))

  each_binds : (n : ℕ) (ts us : List TargetExpr) → Pairwise (BindAgree n) ts us → (vs : List Datum) (env : V) (peer : W) (ps : Places) → R env peer → (s : S)
      → Alike Bound (targets.bind_each m (targets.bind_to m left n) ts vs env ps s) (targets.bind_each m (targets.bind_to m right n) us vs peer ps s)
  unfolding targets.bind_each
  each_binds n [] [] h vs env peer ps related s = (refl, (related, refl))
  each_binds n (t ∷ ts) (u ∷ us) h [] env peer ps related s = (refl, (related, refl))
  each_binds n (t ∷ ts) (u ∷ us) h (v ∷ vs) env peer ps related s =
      then_alike Bound Bound _ _ _ _ (h.0 v env peer ps related s)
      (λ a b w k. subst (λ z. Alike Bound (targets.bind_each m (targets.bind_to m left n) ts vs a.0 a.1 w) (targets.bind_each m (targets.bind_to m right n) us vs b.0 z w)) k.1 (each_binds n ts us h.1 vs a.0 b.0 a.1 k.0 w))
  each_binds n [] (u ∷ us) h vs env peer ps related s = absurd h
  each_binds n (t ∷ ts) [] h vs env peer ps related s = absurd h

  pub unpack_binds : (n : ℕ) (ts us : List TargetExpr) → Pairwise (BindAgree n) ts us → (v : Datum) (env : V) (peer : W) (ps : Places) → R env peer → (s : S)
      → Alike Bound (targets.unpack m (targets.bind_to m left n) ts v env ps s) (targets.unpack m (targets.bind_to m right n) us v peer ps s)
  unfolding targets.unpack
  unpack_binds n ts us h v env peer ps related s = rw (same_length (BindAgree n) ts us h) (then_both Bound _ _ _ (λ vs t. each_binds n ts us h vs env peer ps related t))

  -- the variables of a `for`
  pub variables_alike : (t u : TargetExpr) → BindAgree max_layers t u → (v : Datum) (env : V) (peer : W) → R env peer → (s : S)
      → Alike R (targets.bind_variables m left t v env s) (targets.bind_variables m right u v peer s)
  unfolding targets.bind_variables
  variables_alike t u h v env peer related s = then_alike Bound R _ _ _ _ (h v env peer [] related s) (λ a b w k. (refl, k.0))

  -- ---- turns

  abbrev pub Turned : Contents × V → Contents × W → Type 0
  Turned r q = (r.0 ≡ q.0) × R r.1 q.1

  abbrev pub TurnAlike : Turn S V → Turn S W → Type 0
  TurnAlike f g = (env : V) (peer : W) (c : Contents) → R env peer → (s : S) → Alike Turned (f env c s) (g peer c s)

  turn_alike : (t u : TargetExpr) → BindAgree max_layers t u → (inner : Turn S V) (within : Turn S W) → TurnAlike inner within → (v : Datum) → TurnAlike (forms.turn m left t inner v) (forms.turn m right u within v)
  unfolding forms.turn
  turn_alike t u h inner within k v env peer c related s =
      then_both Turned _ _ _ (λ _ r. then_alike R Turned _ _ _ _ (variables_alike t u h v env peer related r) (λ a b w bound. k a b c bound w))

  turns_alike : (t u : TargetExpr) → BindAgree max_layers t u → (inner : Turn S V) (within : Turn S W) → TurnAlike inner within → (vs : List Datum) → TurnAlike (forms.turns m left t inner vs) (forms.turns m right u within vs)
  unfolding forms.turns
  turns_alike t u h inner within k [] env peer c related s = (refl, (refl, related))
  turns_alike t u h inner within k (v ∷ vs) env peer c related s =
      then_alike Turned Turned _ _ _ _ (turn_alike t u h inner within k v env peer c related s)
      (λ a b w r. subst (λ z. Alike Turned (forms.turns m left t inner vs a.1 a.0 w) (forms.turns m right u within vs b.1 z w)) r.0 (turns_alike t u h inner within k vs a.1 b.1 a.0 r.1 w))

  module _ (E : Eval S V) (F : Eval S W) where
    pub element_alike : (x y : Expr) → ExprAgree R E F x y → TurnAlike (forms.element m E x) (forms.element m F y)
    unfolding forms.element
    element_alike x y h env peer c related s =
        then_same Turned _ _ _ _ (h env peer related s) (λ v t. then_pure Turned (m.add c v t) (λ d. (d, env)) (λ d. (d, peer)) (λ d. (refl, related)))

    pub pair_element_alike : (p q : Pair) → PairAgree m E F R p q → TurnAlike (forms.pair_element m E p) (forms.pair_element m F q)
    unfolding forms.pair_element
    pair_element_alike p q h env peer c related s =
        then_same Turned _ _ _ _ (h.0 env peer related s)
        (λ k t. then_same Turned _ _ _ _ (h.1 env peer related t) (λ v u. then_pure Turned (m.put_pair c k v u) (λ d. (d, env)) (λ d. (d, peer)) (λ d. (refl, related))))

    -- ---- clauses: `around` holds of the environments that an iterable is evaluated in

    -- a clause's outermost layer
    abbrev pub ClauseLayerAgree : (V → W → Type 0) → ClauseLayer → ClauseLayer → Type 0
    ClauseLayerAgree around o p =
        (inner : Turn S V) (within : Turn S W) → TurnAlike inner within → (there : V) (yonder : W) → around there yonder
        → TurnAlike (forms.clause_by m left E o there inner) (forms.clause_by m right F p yonder within)

    abbrev pub ClauseAgree : (V → W → Type 0) → Clause → Clause → Type 0
    ClauseAgree around c d = ClauseLayerAgree around (out-Clause c) (out-Clause d)

    pub for_alike : (around : V → W → Type 0) (t u : TargetExpr) (x y : Expr) → BindAgree max_layers t u → ExprAgree around E F x y → ClauseLayerAgree around (Clause-F.For t x) (Clause-F.For u y)
    unfolding forms.for_clause
    for_alike around t u x y h l inner within k there yonder outside env peer made related s =
        then_same Turned _ _ _ _ (l there yonder outside s)
        (λ v r. then_both Turned _ _ _ (λ vs w. then_alike Turned Turned _ _ _ _ (turns_alike t u h inner within k vs env peer made related w) (λ a b z turned. (refl, turned))))

    pub if_alike : (around : V → W → Type 0) (x y : Expr) → ExprAgree R E F x y → ClauseLayerAgree around (Clause-F.If x) (Clause-F.If y)
    unfolding forms.if_clause
    if_alike around x y l inner within k there yonder outside env peer made related s =
        then_same Turned _ _ _ _ (l env peer related s) (λ v r. choice Turned (m.truth v r) _ _ _ _ r (k env peer made related r) (refl, (refl, related)))
