-- What is assigned to does the same in two kinds of environments, where binding a name keeps what both have in common.
use Rattle.std.proofs.Common.{◌≡◌, ℕ, suc, List, [], ◌∷◌, refl}
use Rattle.bq_parse_grammar.specs.declared.tree.Argument.TheOpen.{TargetExpr-F}
use Rattle.bq_parse_grammar.specs.declared.tree.Expr.{Expr}
use Rattle.bq_parse_grammar.specs.declared.tree.Identifier.{Identifier}
use Rattle.bq_parse_grammar.specs.declared.tree.Operator.{Operator}
use Rattle.bq_parse_grammar.specs.declared.tree.TargetExpr.{TargetExpr, out-TargetExpr}
use Rattle.bq_resolve_scope.specs.Names.{TargetLayer, max_layers}
use Rattle.bq_value.specs.Datum.{Datum}
use Rattle.bq_eval_spec.specs.Primitives.{Primitives}
use Rattle.bq_eval_spec.specs.Environment.{Scoping}
use Rattle.bq_eval_spec.specs.Targets as forms
use Rattle.bq_eval_spec.specs.Targets.{Places}
use Rattle.bq_eval_spec.specs.Trees.{Eval}
use Rattle.bq_eval_by_name.specs.Alike.{Alike, Same}
use Rattle.bq_eval_by_name.proofs.Runs.{then_alike, then_same, then_both, then_pure}
use Rattle.bq_eval_by_name.proofs.Walks.{Pairwise}
use Rattle.bq_eval_by_name.proofs.Parts.{ExprAgree}
use Rattle.bq_eval_by_name.proofs.Turns.{Bound, BindAgree, BindLayer, layer_binds, name_binds, index_binds, unpack_binds}

-- Both say the same of the names, and `R` still holds where they are bound.
abbrev pub NamesAlike : {Q P V W : Type 0} → Scoping Q V → Scoping P W → (V → W → Type 0) → Identifier → Identifier → Type 0
NamesAlike {V = V} {W = W} left right R i j =
    (env : V) (peer : W) → R env peer → (left.own_value env i ≡ right.own_value peer j) × ((v : Datum) → R (left.bind env i v) (right.bind peer j v))

module _ {S Q P V W : Type 0} (m : Primitives S) (left : Scoping Q V) (right : Scoping P W) (R : V → W → Type 0) (E : Eval S V) (F : Eval S W) where
  -- ---- a target, and what it resolves to

  abbrev pub PlacesAgree : ℕ → TargetExpr → TargetExpr → Type 0
  PlacesAgree n t u = (env : V) (peer : W) (ps : Places) → R env peer → (s : S) → Alike Same (forms.places_to m E n t env ps s) (forms.places_to m F n u peer ps s)

  abbrev pub AugmentLayer : TargetLayer → TargetLayer → Type 0
  AugmentLayer o p =
      (a : Operator) (x y : Expr) → ExprAgree R E F x y → (env : V) (peer : W) → R env peer → (s : S) → Alike R (forms.augment_by m left E o a x env s) (forms.augment_by m right F p a y peer s)

  pub record TargetAgree (n : ℕ) (t u : TargetExpr) : Type 0 where
    pub binding : BindAgree m left right R n t u
    pub places : PlacesAgree n t u
    pub augment : AugmentLayer (out-TargetExpr t) (out-TargetExpr u)

  -- ---- their outermost layers

  abbrev pub PlacesLayer : ℕ → TargetLayer → TargetLayer → Type 0
  PlacesLayer n o p =
      (env : V) (peer : W) (ps : Places) → R env peer → (s : S) → Alike Same (forms.places_by m E (forms.places_to m E n) o env ps s) (forms.places_by m F (forms.places_to m F n) p peer ps s)

  pub record LayerAgree (n : ℕ) (o p : TargetLayer) : Type 0 where
    pub binding : BindLayer m left right R n o p
    pub places : PlacesLayer n o p
    pub augment : AugmentLayer o p

  pub layer_agrees : (n : ℕ) (t u : TargetExpr) → LayerAgree n (out-TargetExpr t) (out-TargetExpr u) → TargetAgree (suc n) t u
  unfolding forms.places_to forms.places_of
  layer_agrees n t u h = record { binding = layer_binds m left right R n t u h.binding; places = h.places; augment = h.augment }

  -- ---- `name`

  name_augment : (i j : Identifier) → NamesAlike left right R i j → AugmentLayer (TargetExpr-F.TargetExpr::Name i) (TargetExpr-F.TargetExpr::Name j)
  unfolding forms.augment_name
  name_augment i j keeps a x y agree env peer h s =
      rw (keeps env peer h).0
      (then_both R (forms.bound m (right.own_value peer j) s) _ _
      (λ old t. then_same R _ _ _ _ (agree env peer h t) (λ v w. then_pure R (m.augment a old v w) (λ new. left.bind env i new) (λ new. right.bind peer j new) (λ new. (keeps env peer h).1 new))))

  pub name_agrees : (n : ℕ) (i j : Identifier) → NamesAlike left right R i j → LayerAgree n (TargetExpr-F.TargetExpr::Name i) (TargetExpr-F.TargetExpr::Name j)
  name_agrees n i j keeps =
      record { binding = name_binds m left right R n i j (λ env peer h. (keeps env peer h).1); places = λ env peer ps h s. (refl, refl); augment = name_augment i j keeps }

  -- ---- `x[i]`

  module _ (x i y j : Expr) (operand : ExprAgree R E F x y) (index : ExprAgree R E F i j) where
    place_alike : (n : ℕ) → PlacesLayer n (TargetExpr-F.TargetExpr::Index x i) (TargetExpr-F.TargetExpr::Index y j)
    unfolding forms.place
    place_alike n env peer ps h s = then_same Same _ _ _ _ (operand env peer h s) (λ v t. then_same Same _ _ _ _ (index env peer h t) (λ w u. (refl, refl)))

    index_augment : AugmentLayer (TargetExpr-F.TargetExpr::Index x i) (TargetExpr-F.TargetExpr::Index y j)
    unfolding forms.augment_index
    index_augment a z w agree env peer h s =
        then_same R _ _ _ _ (operand env peer h s) (λ u t. then_same R _ _ _ _ (index env peer h t)
        (λ k r. then_both R (m.index u k r) _ _ (λ old q. then_same R _ _ _ _ (agree env peer h q)
        (λ v p. then_both R (m.augment a old v p) _ _ (λ new o. then_pure R (m.set_index u k new o) (λ _. env) (λ _. peer) (λ _. h))))))

    pub index_agrees : (n : ℕ) → LayerAgree n (TargetExpr-F.TargetExpr::Index x i) (TargetExpr-F.TargetExpr::Index y j)
    index_agrees n = record { binding = index_binds m left right R n x i y j; places = place_alike n; augment = index_augment }

  -- ---- `(t, ..)` and `[t, ..]`

  all_bind : (n : ℕ) (ts us : List TargetExpr) → Pairwise (TargetAgree n) ts us → Pairwise (BindAgree m left right R n) ts us
  all_bind n [] [] h = tt
  all_bind n (t ∷ ts) (u ∷ us) h = (h.0.binding, all_bind n ts us h.1)
  all_bind n [] (u ∷ us) h = absurd h
  all_bind n (t ∷ ts) [] h = absurd h

  each_places : (n : ℕ) (ts us : List TargetExpr) → Pairwise (TargetAgree n) ts us → (env : V) (peer : W) (ps : Places) → R env peer → (s : S)
      → Alike Same (forms.places_each m E (forms.places_to m E n) ts env ps s) (forms.places_each m F (forms.places_to m F n) us peer ps s)
  unfolding forms.places_each
  each_places n [] [] h env peer ps r s = (refl, refl)
  each_places n (t ∷ ts) (u ∷ us) h env peer ps r s = then_same Same _ _ _ _ (h.0.places env peer ps r s) (λ qs w. each_places n ts us h.1 env peer qs r w)
  each_places n [] (u ∷ us) h env peer ps r s = absurd h
  each_places n (t ∷ ts) [] h env peer ps r s = absurd h

  pub tuple_agrees : (n : ℕ) (ts us : List TargetExpr) → Pairwise (TargetAgree n) ts us → LayerAgree n (TargetExpr-F.TargetExpr::Tuple ts) (TargetExpr-F.TargetExpr::Tuple us)
  tuple_agrees n ts us h = record { binding = unpack_binds m left right R n ts us (all_bind n ts us h); places = each_places n ts us h; augment = λ a x y agree env peer r s. refl }

  pub list_agrees : (n : ℕ) (ts us : List TargetExpr) → Pairwise (TargetAgree n) ts us → LayerAgree n (TargetExpr-F.TargetExpr::List ts) (TargetExpr-F.TargetExpr::List us)
  list_agrees n ts us h = record { binding = unpack_binds m left right R n ts us (all_bind n ts us h); places = each_places n ts us h; augment = λ a x y agree env peer r s. refl }

  -- ---- assignments

  pub assign_alike : (t u : TargetExpr) → TargetAgree max_layers t u → (v : Datum) (env : V) (peer : W) → R env peer → (s : S)
      → Alike R (forms.assign m left E t v env s) (forms.assign m right F u v peer s)
  unfolding forms.assign
  assign_alike t u h v env peer r s =
      then_same R _ _ _ _ (h.places env peer [] r s) (λ ps w. then_alike (Bound m left right R) R _ _ _ _ (h.binding v env peer ps r w) (λ a b q k. (refl, k.0)))
