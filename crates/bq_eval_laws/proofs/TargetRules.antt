-- A relation that respects the rules holds of what targets do.
use Rattle.std.proofs.Common.{ℕ, zero, suc, List, [], ◌∷◌, ◌++◌, length, Option, Some, None, ◌≤◌, not-suc-le-zero, le_of_suc-le-suc}
use Rattle.std.specs.List.{AllByRecursion}
use Rattle.bq_base.specs.declared.fault.EvalFault.TheVariants as f
use Rattle.bq_parse_grammar.specs.declared.tree.Operator.{Operator}
use Rattle.bq_parse_grammar.specs.declared.tree.Expr.{Expr}
use Rattle.bq_parse_grammar.specs.declared.tree.Argument.TheOpen.{TargetExpr-F}
use Rattle.bq_parse_grammar.specs.declared.tree.TargetExpr.{TargetExpr, out-TargetExpr}
use Rattle.bq_parse_grammar.specs.declared.tree.Identifier.{Identifier}
use Rattle.bq_resolve_scope.specs.Names.{max_layers, TargetLayer}
use Rattle.bq_value.specs.Datum.{Datum}
use Rattle.bq_builtin_machine.specs.Action.{Action}
use Rattle.bq_eval_spec.specs.Primitives.{Primitives, stuck_fault}
use Rattle.bq_eval_spec.specs.Targets.{Places, Binds, bound, bind_place, bind_each, unpack, bind_by, bind_target, bind_to, bind_variables, place, places_each, places_by, places_of, places_to, assign, augment_name, augment_index, augment_by, augment}
use Rattle.bq_eval_spec.specs.Trees.{Eval}
use Rattle.bq_eval_spec.specs.Environment.{Scoping}
use Rattle.bq_eval_laws.specs.Layers.{TargetParts, TargetIsWithin}
use Rattle.bq_eval_laws.proofs.Anything.{Holds, target}
use Rattle.bq_eval_laws.proofs.Respects.{Relation, Respects}

module _ {S Round V : Type 0} (m : Primitives S) (scoping : Scoping Round V) (K : Relation S) (R : Respects m K) where
  pub bound_rule : (o : Option Datum) → K Datum (bound m o) (bound m o)
  unfolding bound
  bound_rule None = R.of_stop Datum f.Unbound
  bound_rule (Some v) = R.of_value Datum v

  -- ---- binding

  bind_place_rule : (v : Datum) (env : V) (ps : Places) → K (V × Places) (bind_place m v env ps) (bind_place m v env ps)
  unfolding bind_place
  bind_place_rule v env [] = R.of_stop (V × Places) stuck_fault
  bind_place_rule v env (p ∷ ps) = R.of_both _ _ _ _ _ _ (R.of_set_index p.0 p.1 v) (λ _. R.of_value (V × Places) (env, ps))

  module _ (P : TargetExpr → Type 0) (inner other : TargetExpr → Binds S V)
      (inners : (t : TargetExpr) → P t → (v : Datum) (env : V) (ps : Places) → K (V × Places) (inner t v env ps) (other t v env ps)) where
    bind_each_rule : (ts : List TargetExpr) (vs : List Datum) (env : V) (ps : Places) → AllByRecursion P ts → K (V × Places) (bind_each m inner ts vs env ps) (bind_each m other ts vs env ps)
    unfolding bind_each
    bind_each_rule [] vs env ps all = R.of_value (V × Places) (env, ps)
    bind_each_rule (t ∷ ts) [] env ps all = R.of_value (V × Places) (env, ps)
    bind_each_rule (t ∷ ts) (v ∷ vs) env ps all = R.of_both _ _ _ _ _ _ (inners t all.0 v env ps) (λ r. bind_each_rule ts vs r.0 r.1 all.1)

    unpack_rule : (ts : List TargetExpr) (v : Datum) (env : V) (ps : Places) → AllByRecursion P ts → K (V × Places) (unpack m inner ts v env ps) (unpack m other ts v env ps)
    unfolding unpack
    unpack_rule ts v env ps all = R.of_both _ _ _ _ _ _ (R.of_parts (length ts) v) (λ vs. bind_each_rule ts vs env ps all)

    bind_by_rule : (o : TargetLayer) (v : Datum) (env : V) (ps : Places) → TargetParts P o → K (V × Places) (bind_by m scoping inner o v env ps) (bind_by m scoping other o v env ps)
    bind_by_rule (TargetExpr-F.TargetExpr::Name n) v env ps all = R.of_value (V × Places) (scoping.bind env n v, ps)
    bind_by_rule (TargetExpr-F.TargetExpr::Index x i) v env ps all = bind_place_rule v env ps
    bind_by_rule (TargetExpr-F.TargetExpr::Tuple ts) v env ps all = unpack_rule ts v env ps all
    bind_by_rule (TargetExpr-F.TargetExpr::List ts) v env ps all = unpack_rule ts v env ps all

    pub bind_target_rule : (t : TargetExpr) (v : Datum) (env : V) (ps : Places) → TargetParts P (out-TargetExpr t) → K (V × Places) (bind_target m scoping inner t v env ps) (bind_target m scoping other t v env ps)
    unfolding bind_target
    bind_target_rule t v env ps all = bind_by_rule (out-TargetExpr t) v env ps all

  -- at a depth that suffices, and at a greater one
  pub bind_depths : (n k : ℕ) → n ≤ k → (t : TargetExpr) → TargetIsWithin n t → (v : Datum) (env : V) (ps : Places) → K (V × Places) (bind_to m scoping n t v env ps) (bind_to m scoping k t v env ps)
  unfolding bind_to TargetIsWithin
  bind_depths zero k few t fits v env ps = absurd fits
  bind_depths (suc n) zero few t fits v env ps = absurd (not-suc-le-zero few)
  bind_depths (suc n) (suc k) few t fits v env ps = bind_target_rule (TargetIsWithin n) (bind_to m scoping n) (bind_to m scoping k) (bind_depths n k (le_of_suc-le-suc few)) t v env ps fits

  pub bind_rule : (n : ℕ) (t : TargetExpr) (v : Datum) (env : V) (ps : Places) → K (V × Places) (bind_to m scoping n t v env ps) (bind_to m scoping n t v env ps)
  unfolding bind_to
  bind_rule zero t v env ps = R.of_stop (V × Places) stuck_fault
  bind_rule (suc n) t v env ps = bind_target_rule Holds (bind_to m scoping n) (bind_to m scoping n) (λ u _. bind_rule n u) t v env ps (target (out-TargetExpr t))

  pub variables_rule : (t : TargetExpr) (v : Datum) (env : V) → K V (bind_variables m scoping t v env) (bind_variables m scoping t v env)
  unfolding bind_variables
  variables_rule t v env = R.of_both _ _ _ _ _ _ (bind_rule max_layers t v env []) (λ r. R.of_value V r.0)

  module _ (eval : Eval S V) (evals : (x : Expr) (env : V) → K Datum (eval x env) (eval x env)) where
    -- ---- a target's places

    place_rule : (x i : Expr) (env : V) (ps : Places) → K Places (place m eval x i env ps) (place m eval x i env ps)
    unfolding place
    place_rule x i env ps = R.of_both _ _ _ _ _ _ (evals x env) (λ v. R.of_both _ _ _ _ _ _ (evals i env) (λ w. R.of_value Places (ps ++ (v, w) ∷ [])))

    module _ (P : TargetExpr → Type 0) (inner other : TargetExpr → V → Places → Action S Places)
        (inners : (t : TargetExpr) → P t → (env : V) (ps : Places) → K Places (inner t env ps) (other t env ps)) where
      places_each_rule : (ts : List TargetExpr) (env : V) (ps : Places) → AllByRecursion P ts → K Places (places_each m eval inner ts env ps) (places_each m eval other ts env ps)
      unfolding places_each
      places_each_rule [] env ps all = R.of_value Places ps
      places_each_rule (t ∷ ts) env ps all = R.of_both _ _ _ _ _ _ (inners t all.0 env ps) (λ qs. places_each_rule ts env qs all.1)

      places_by_rule : (o : TargetLayer) (env : V) (ps : Places) → TargetParts P o → K Places (places_by m eval inner o env ps) (places_by m eval other o env ps)
      places_by_rule (TargetExpr-F.TargetExpr::Name n) env ps all = R.of_value Places ps
      places_by_rule (TargetExpr-F.TargetExpr::Index x i) env ps all = place_rule x i env ps
      places_by_rule (TargetExpr-F.TargetExpr::Tuple ts) env ps all = places_each_rule ts env ps all
      places_by_rule (TargetExpr-F.TargetExpr::List ts) env ps all = places_each_rule ts env ps all

      places_of_rule : (t : TargetExpr) (env : V) (ps : Places) → TargetParts P (out-TargetExpr t) → K Places (places_of m eval inner t env ps) (places_of m eval other t env ps)
      unfolding places_of
      places_of_rule t env ps all = places_by_rule (out-TargetExpr t) env ps all

    -- at a depth that suffices, and at a greater one
    pub places_depths : (n k : ℕ) → n ≤ k → (t : TargetExpr) → TargetIsWithin n t → (env : V) (ps : Places) → K Places (places_to m eval n t env ps) (places_to m eval k t env ps)
    unfolding places_to TargetIsWithin
    places_depths zero k few t fits env ps = absurd fits
    places_depths (suc n) zero few t fits env ps = absurd (not-suc-le-zero few)
    places_depths (suc n) (suc k) few t fits env ps = places_of_rule (TargetIsWithin n) (places_to m eval n) (places_to m eval k) (places_depths n k (le_of_suc-le-suc few)) t env ps fits

    places_rule : (n : ℕ) (t : TargetExpr) (env : V) (ps : Places) → K Places (places_to m eval n t env ps) (places_to m eval n t env ps)
    unfolding places_to
    places_rule zero t env ps = R.of_stop Places stuck_fault
    places_rule (suc n) t env ps = places_of_rule Holds (places_to m eval n) (places_to m eval n) (λ u _. places_rule n u) t env ps (target (out-TargetExpr t))

    -- ---- assignments

    pub assign_rule : (t : TargetExpr) (v : Datum) (env : V) → K V (assign m scoping eval t v env) (assign m scoping eval t v env)
    unfolding assign
    assign_rule t v env =
        R.of_both _ _ _ _ _ _ (places_rule max_layers t env []) (λ ps. R.of_both _ _ _ _ _ _ (bind_rule max_layers t v env ps) (λ r. R.of_value V r.0))

    augment_name_rule : (n : Identifier) (o : Operator) (x : Expr) (env : V) → K V (augment_name m scoping eval n o x env) (augment_name m scoping eval n o x env)
    unfolding augment_name
    augment_name_rule n o x env =
        R.of_both _ _ _ _ _ _ (bound_rule (scoping.own_value env n))
        (λ old. R.of_both _ _ _ _ _ _ (evals x env) (λ v. R.of_both _ _ _ _ _ _ (R.of_augment o old v) (λ new. R.of_value V (scoping.bind env n new))))

    augment_index_rule : (y i : Expr) (o : Operator) (x : Expr) (env : V) → K V (augment_index m eval y i o x env) (augment_index m eval y i o x env)
    unfolding augment_index
    augment_index_rule y i o x env =
        R.of_both _ _ _ _ _ _ (evals y env)
        (λ u. R.of_both _ _ _ _ _ _ (evals i env)
        (λ w. R.of_both _ _ _ _ _ _ (R.of_index u w)
        (λ old. R.of_both _ _ _ _ _ _ (evals x env)
        (λ v. R.of_both _ _ _ _ _ _ (R.of_augment o old v)
        (λ new. R.of_both _ _ _ _ _ _ (R.of_set_index u w new) (λ _. R.of_value V env))))))

    augment_by_rule : (t : TargetLayer) (o : Operator) (x : Expr) (env : V) → K V (augment_by m scoping eval t o x env) (augment_by m scoping eval t o x env)
    augment_by_rule (TargetExpr-F.TargetExpr::Name n) o x env = augment_name_rule n o x env
    augment_by_rule (TargetExpr-F.TargetExpr::Index y i) o x env = augment_index_rule y i o x env
    augment_by_rule (TargetExpr-F.TargetExpr::Tuple ts) o x env = R.of_stop V stuck_fault
    augment_by_rule (TargetExpr-F.TargetExpr::List ts) o x env = R.of_stop V stuck_fault

    pub augment_rule : (t : TargetExpr) (o : Operator) (x : Expr) (env : V) → K V (augment m scoping eval t o x env) (augment m scoping eval t o x env)
    unfolding augment
    augment_rule t o x env = augment_by_rule (out-TargetExpr t) o x env
