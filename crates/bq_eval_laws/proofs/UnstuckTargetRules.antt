-- Assignments do not get stuck: as many places are bound as were evaluated, and the variables of a `for` have none.
use Rattle.std.proofs.Common.{◌≡◌, false, ℕ, zero, suc, ◌+◌, ◌≤◌, List, [], ◌∷◌, length, Option, Some, None, refl, arith, length-append}
use Rattle.std.specs.List.{AllByRecursion}
use Rattle.bq_base.specs.declared.fault.EvalFault.TheVariants as f
use Rattle.bq_parse_grammar.specs.declared.tree.Argument.TheOpen.{TargetExpr-F}
use Rattle.bq_parse_grammar.specs.declared.tree.Expr.{Expr}
use Rattle.bq_parse_grammar.specs.declared.tree.Identifier.{Identifier}
use Rattle.bq_parse_grammar.specs.declared.tree.Operator.{Operator}
use Rattle.bq_parse_grammar.specs.declared.tree.TargetExpr.{TargetExpr, out-TargetExpr}
use Rattle.bq_resolve_scope.specs.Names.{max_layers, TargetLayer}
use Rattle.bq_value.specs.Datum.{Datum}
use Rattle.bq_builtin_machine.specs.Action.{Action, Run, done, stopped, following}
use Rattle.bq_eval_spec.specs.Frame.{Frame, fill}
use Rattle.bq_eval_spec.specs.Primitives.{Primitives}
use Rattle.bq_eval_spec.specs.Slots.{by_slots, slot_of}
use Rattle.bq_eval_spec.specs.Targets.{Places, Binds, bound, bind_place, bind_each, unpack, bind_by, bind_target, bind_to, bind_variables, place, places_each, places_by, places_of, places_to, assign, augment_name, augment_index, augment_by, augment}
use Rattle.bq_eval_spec.specs.Trees.{Eval}
use Rattle.bq_eval_laws.specs.Layers.{TargetParts}
use Rattle.bq_eval_laws.specs.Fits.{IndexParts}
use Rattle.bq_eval_laws.specs.Stuck.{is_stuck, IsUnstuck, Unstuck, NeverStuck}
use Rattle.bq_eval_laws.specs.Sound.{TargetIsSoundTo, NoExpr, AreNames, IsOneLayer, IsOne}
use Rattle.bq_eval_laws.proofs.Unstuck.{value_of, stop_of, both}

-- ---- how many places a target has

all_places : (TargetExpr → ℕ) → List TargetExpr → ℕ
all_places f [] = 0
all_places f (t ∷ ts) = f t + all_places f ts

abbrev places_in_layer : (TargetExpr → ℕ) → TargetLayer → ℕ
places_in_layer inner (TargetExpr-F.TargetExpr::Index x i) = 1
places_in_layer inner (TargetExpr-F.TargetExpr::Tuple ts) = all_places inner ts
places_in_layer inner (TargetExpr-F.TargetExpr::List ts) = all_places inner ts
places_in_layer inner _ = 0

unfoldable places_in : ℕ → TargetExpr → ℕ
places_in zero t = 0
places_in (suc n) t = places_in_layer (places_in n) (out-TargetExpr t)

-- ---- runs that do not get stuck, or give what has this property

abbrev Giving : {S A : Type 0} → (A → Type 0) → Run S A → Type 0
Giving P (done x s) = P x
Giving P (stopped why) = is_stuck why.kind ≡ false

giving_then : {S A B : Type 0} (P : A → Type 0) (Q : B → Type 0) (r : Run S A) (go : A → Action S B) → Giving P r → ((x : A) → P x → (s : S) → Giving Q (go x s)) → Giving Q (following r go)
giving_then P Q (done x s) go h k = k x h s
giving_then P Q (stopped why) go h k = h

giving_after : {S A B : Type 0} (Q : B → Type 0) (r : Run S A) (go : A → Action S B) → IsUnstuck r → ((x : A) (s : S) → Giving Q (go x s)) → Giving Q (following r go)
giving_after Q (done x s) go h k = k x s
giving_after Q (stopped why) go h k = h

only : {S A B : Type 0} (P : A → Type 0) (r : Run S A) (go : A → Action S B) → Giving P r → ((x : A) → P x → Unstuck B (go x)) → IsUnstuck (following r go)
only P (done x s) go h k = k x h s
only P (stopped why) go h k = h

module _ {S : Type 0} (m : Primitives S) (L : NeverStuck m) where
  pub bound_rule : (o : Option Datum) → Unstuck Datum (bound m o)
  unfolding bound
  bound_rule None = stop_of m Datum f.Unbound refl
  bound_rule (Some v) = value_of Datum v

  -- ---- binding: where there are as many places as are needed, and more after them, these are left

  abbrev Leaves : ℕ → Frame × Places → Type 0
  Leaves rest r = rest ≤ length r.1

  abbrev BindsAll : (TargetExpr → ℕ) → (TargetExpr → Binds S Frame) → TargetExpr → Type 0
  BindsAll count inner t = (v : Datum) (env : Frame) (ps : Places) (rest : ℕ) → count t + rest ≤ length ps → (s : S) → Giving (Leaves rest) (inner t v env ps s)

  place_binds : (v : Datum) (env : Frame) (ps : Places) (rest : ℕ) → 1 + rest ≤ length ps → (s : S) → Giving (Leaves rest) (bind_place m v env ps s)
  unfolding bind_place
  place_binds v env [] rest h s = absurd (omega (arith, h))
  place_binds v env (p ∷ ps) rest h s = giving_after (Leaves rest) (m.set_index p.0 p.1 v s) _ (L.of_set_index p.0 p.1 v s) (λ _ t. omega (arith, h))

  module _ (P : TargetExpr → Type 0) (count : TargetExpr → ℕ) (inner : TargetExpr → Binds S Frame) (inners : (t : TargetExpr) → P t → BindsAll count inner t) where
    each_binds : (ts : List TargetExpr) → AllByRecursion P ts → (vs : List Datum) (env : Frame) (ps : Places) (rest : ℕ) → all_places count ts + rest ≤ length ps → (s : S)
        → Giving (Leaves rest) (bind_each m inner ts vs env ps s)
    unfolding bind_each all_places
    each_binds [] all vs env ps rest h s = omega (arith, h)
    each_binds (t ∷ ts) all [] env ps rest h s = omega (arith, h)
    each_binds (t ∷ ts) all (v ∷ vs) env ps rest h s =
        giving_then (Leaves (all_places count ts + rest)) (Leaves rest) (inner t v env ps s) (λ r. bind_each m inner ts vs r.0 r.1) (inners t all.0 v env ps (all_places count ts + rest) (omega (arith, h)) s)
        (λ r k w. each_binds ts all.1 vs r.0 r.1 rest k w)

    unpack_binds : (ts : List TargetExpr) → AllByRecursion P ts → (v : Datum) (env : Frame) (ps : Places) (rest : ℕ) → all_places count ts + rest ≤ length ps → (s : S)
        → Giving (Leaves rest) (unpack m inner ts v env ps s)
    unfolding unpack
    unpack_binds ts all v env ps rest h s = giving_after (Leaves rest) (m.parts (length ts) v s) _ (L.of_parts (length ts) v s) (λ vs w. each_binds ts all vs env ps rest h w)

    layer_binds : (o : TargetLayer) → TargetParts P o → (v : Datum) (env : Frame) (ps : Places) (rest : ℕ) → places_in_layer count o + rest ≤ length ps → (s : S)
        → Giving (Leaves rest) (bind_by m by_slots inner o v env ps s)
    layer_binds (TargetExpr-F.TargetExpr::Name n) all v env ps rest h s = omega (arith, h)
    layer_binds (TargetExpr-F.TargetExpr::Index x i) all v env ps rest h s = place_binds v env ps rest h s
    layer_binds (TargetExpr-F.TargetExpr::Tuple ts) all v env ps rest h s = unpack_binds ts all v env ps rest h s
    layer_binds (TargetExpr-F.TargetExpr::List ts) all v env ps rest h s = unpack_binds ts all v env ps rest h s

  target_binds : (E : Expr → Type 0) (n : ℕ) (t : TargetExpr) → TargetIsSoundTo E n t → BindsAll (places_in n) (bind_to m by_slots n) t
  unfolding bind_to bind_target TargetIsSoundTo places_in
  target_binds E zero t fits v env ps rest h s = absurd fits
  target_binds E (suc n) t fits v env ps rest h s = layer_binds (TargetIsSoundTo E n) (places_in n) (bind_to m by_slots n) (target_binds E n) (out-TargetExpr t) fits.0 v env ps rest h s

  -- ---- the variables of a `for`

  none_of : (n : ℕ) → ((t : TargetExpr) → TargetIsSoundTo NoExpr n t → places_in n t ≡ 0) → (ts : List TargetExpr) → AllByRecursion (TargetIsSoundTo NoExpr n) ts → all_places (places_in n) ts ≡ 0
  unfolding all_places
  none_of n each [] all = refl
  none_of n each (t ∷ ts) all = let a = each t all.0 in let b = none_of n each ts all.1 in omega arith

  none_by : (n : ℕ) → ((t : TargetExpr) → TargetIsSoundTo NoExpr n t → places_in n t ≡ 0) → (o : TargetLayer) → TargetParts (TargetIsSoundTo NoExpr n) o → IndexParts NoExpr o → places_in_layer (places_in n) o ≡ 0
  none_by n each (TargetExpr-F.TargetExpr::Name x) all h = refl
  none_by n each (TargetExpr-F.TargetExpr::Index x i) all h = absurd h.0
  none_by n each (TargetExpr-F.TargetExpr::Tuple ts) all h = none_of n each ts all
  none_by n each (TargetExpr-F.TargetExpr::List ts) all h = none_of n each ts all

  no_places : (n : ℕ) (t : TargetExpr) → TargetIsSoundTo NoExpr n t → places_in n t ≡ 0
  unfolding places_in TargetIsSoundTo
  no_places zero t fits = refl
  no_places (suc n) t fits = none_by n (no_places n) (out-TargetExpr t) fits.0 fits.1

  pub variables_rule : (t : TargetExpr) → AreNames t → (v : Datum) (env : Frame) → Unstuck Frame (bind_variables m by_slots t v env)
  unfolding bind_variables
  variables_rule t names v env s =
      let none : places_in max_layers t ≡ 0 = no_places max_layers t names in
      only (Leaves 0) (bind_to m by_slots max_layers t v env [] s) _ (target_binds NoExpr max_layers t names v env [] 0 (omega arith) s) (λ r _. value_of Frame r.0)

  module _ (E : Expr → Type 0) (eval : Eval S Frame) (evals : (x : Expr) → E x → (env : Frame) → Unstuck Datum (eval x env)) where
    -- ---- a target's places: as many more as it has

    abbrev More : ℕ → Places → Places → Type 0
    More n ps qs = length qs ≡ length ps + n

    place_more : (x i : Expr) → E x → E i → (env : Frame) (ps : Places) (s : S) → Giving (More 1 ps) (place m eval x i env ps s)
    unfolding place
    place_more x i h k env ps s =
        giving_after (More 1 ps) (eval x env s) _ (evals x h env s) (λ v t. giving_after (More 1 ps) (eval i env t) _ (evals i k env t) (λ w u. length-append ps ((v, w) ∷ [])))

    module _ (P : TargetExpr → Type 0) (count : TargetExpr → ℕ) (inner : TargetExpr → Frame → Places → Action S Places)
        (inners : (t : TargetExpr) → P t → (env : Frame) (ps : Places) (s : S) → Giving (More (count t) ps) (inner t env ps s)) where
      each_more : (ts : List TargetExpr) → AllByRecursion P ts → (env : Frame) (ps : Places) (s : S) → Giving (More (all_places count ts) ps) (places_each m eval inner ts env ps s)
      unfolding places_each all_places
      each_more [] all env ps s = omega arith
      each_more (t ∷ ts) all env ps s =
          giving_then (More (count t) ps) (More (count t + all_places count ts) ps) (inner t env ps s) (λ qs. places_each m eval inner ts env qs) (inners t all.0 env ps s)
          (λ qs h w. raised (places_each m eval inner ts env qs w) (count t) (all_places count ts) ps qs h (each_more ts all.1 env qs w))
        where
          raised : (r : Run S Places) (a b : ℕ) (ps qs : Places) → More a ps qs → Giving (More b qs) r → Giving (More (a + b) ps) r
          raised (done rs w) a b ps qs h k = omega (arith, h, k)
          raised (stopped why) a b ps qs h k = k

      layer_more : (o : TargetLayer) → TargetParts P o → IndexParts E o → (env : Frame) (ps : Places) (s : S) → Giving (More (places_in_layer count o) ps) (places_by m eval inner o env ps s)
      layer_more (TargetExpr-F.TargetExpr::Name n) all k env ps s = omega arith
      layer_more (TargetExpr-F.TargetExpr::Index x i) all k env ps s = place_more x i k.0 k.1 env ps s
      layer_more (TargetExpr-F.TargetExpr::Tuple ts) all k env ps s = each_more ts all env ps s
      layer_more (TargetExpr-F.TargetExpr::List ts) all k env ps s = each_more ts all env ps s

    target_more : (n : ℕ) (t : TargetExpr) → TargetIsSoundTo E n t → (env : Frame) (ps : Places) (s : S) → Giving (More (places_in n t) ps) (places_to m eval n t env ps s)
    unfolding places_to places_of TargetIsSoundTo places_in
    target_more zero t fits env ps s = absurd fits
    target_more (suc n) t fits env ps s = layer_more (TargetIsSoundTo E n) (places_in n) (places_to m eval n) (target_more n) (out-TargetExpr t) fits.0 fits.1 env ps s

    -- ---- assignments

    pub assign_rule : (t : TargetExpr) → TargetIsSoundTo E max_layers t → (v : Datum) (env : Frame) → Unstuck Frame (assign m by_slots eval t v env)
    unfolding assign
    assign_rule t fits v env s =
        only (More (places_in max_layers t) []) (places_to m eval max_layers t env [] s) _ (target_more max_layers t fits env [] s)
        (λ ps h w. only (Leaves 0) (bind_to m by_slots max_layers t v env ps w) _ (target_binds E max_layers t fits v env ps 0 (omega (arith, h)) w) (λ r _. value_of Frame r.0))

    augment_name_rule : (n : Identifier) (o : Operator) (x : Expr) → E x → (env : Frame) → Unstuck Frame (augment_name m by_slots eval n o x env)
    unfolding augment_name
    augment_name_rule n o x h env =
        both _ _ _ _ (bound_rule (env (slot_of n.referent)))
        (λ old. both _ _ _ _ (evals x h env) (λ v. both _ _ _ _ (L.of_augment o old v) (λ new. value_of Frame (fill env (slot_of n.referent) new))))

    augment_index_rule : (y i : Expr) (o : Operator) (x : Expr) → E y → E i → E x → (env : Frame) → Unstuck Frame (augment_index m eval y i o x env)
    unfolding augment_index
    augment_index_rule y i o x hy hi hx env =
        both _ _ _ _ (evals y hy env)
        (λ u. both _ _ _ _ (evals i hi env)
        (λ w. both _ _ _ _ (L.of_index u w)
        (λ old. both _ _ _ _ (evals x hx env)
        (λ v. both _ _ _ _ (L.of_augment o old v)
        (λ new. both _ _ _ _ (L.of_set_index u w new) (λ _. value_of Frame env))))))

    augment_by_rule : (t : TargetLayer) → IndexParts E t → IsOneLayer t → (o : Operator) (x : Expr) → E x → (env : Frame) → Unstuck Frame (augment_by m by_slots eval t o x env)
    augment_by_rule (TargetExpr-F.TargetExpr::Name n) k one o x h env = augment_name_rule n o x h env
    augment_by_rule (TargetExpr-F.TargetExpr::Index y i) k one o x h env = augment_index_rule y i o x k.0 k.1 h env
    augment_by_rule (TargetExpr-F.TargetExpr::Tuple ts) k one o x h env = absurd one
    augment_by_rule (TargetExpr-F.TargetExpr::List ts) k one o x h env = absurd one

    index_parts : (n : ℕ) (t : TargetExpr) → TargetIsSoundTo E n t → IndexParts E (out-TargetExpr t)
    unfolding TargetIsSoundTo
    index_parts zero t fits = absurd fits
    index_parts (suc n) t fits = fits.1

    pub augment_rule : (t : TargetExpr) → TargetIsSoundTo E max_layers t → IsOne t → (o : Operator) (x : Expr) → E x → (env : Frame) → Unstuck Frame (augment m by_slots eval t o x env)
    unfolding augment
    augment_rule t fits one o x h env = augment_by_rule (out-TargetExpr t) (index_parts max_layers t fits) one o x h env
