-- Assignments, one part after another.
use Rattle.std.proofs.Common.{◌≡◌, ◌∙◌, List, [], ◌∷◌, ◌++◌, Some, sym, ap}
use Rattle.bq_parse_grammar.specs.declared.tree.Argument.TheOpen.{TargetExpr-F}
use Rattle.bq_parse_grammar.specs.declared.tree.Expr.{Expr}
use Rattle.bq_parse_grammar.specs.declared.tree.Identifier.{Identifier}
use Rattle.bq_parse_grammar.specs.declared.tree.Operator.{Operator}
use Rattle.bq_parse_grammar.specs.declared.tree.TargetExpr.{TargetExpr, out-TargetExpr}
use Rattle.bq_parse_grammar.specs.declared.tree.TargetExpr.TheVariants as target
use Rattle.bq_resolve_scope.specs.Names.{TargetLayer, max_layers}
use Rattle.bq_value.specs.Datum.{Datum}
use Rattle.bq_builtin_machine.specs.Action.{Action, done, following, pure}
use Rattle.bq_eval_spec.specs.Frame.{Frame, fill}
use Rattle.bq_eval_spec.specs.Primitives.{Primitives, stuck}
use Rattle.bq_eval_spec.specs.Slots.{by_slots, slot_of}
use Rattle.bq_eval_spec.specs.Targets.{assign, augment, augment_by, augment_index, augment_name, bind_by, bind_place, bind_target, bind_to, bind_variables, Binds, bound, Places, place, places_by, places_each, places_of, places_to, unpack}
use Rattle.bq_eval_spec.specs.Trees.{Eval}
use Rattle.bq_eval_rules.proofs.Following.{following_twice}

module _ {S : Type 0} (m : Primitives S) (eval : Eval S Frame) where
  -- a target is assigned by its form
  assign_by : (t : TargetExpr) (l : TargetLayer) (v : Datum) (env : Frame) (s : S) → out-TargetExpr t ≡ l
      → assign m by_slots eval t v env s ≡ following (places_by m eval (places_to m eval 1023) l env [] s) (λ ps r. following (bind_by m by_slots (bind_to m by_slots 1023) l v env ps r) (λ b. pure b.0))
  unfolding assign places_to places_of bind_to bind_target max_layers
  assign_by t l v env s is = ap (λ k. following (places_by m eval (places_to m eval 1023) k env [] s) (λ ps r. following (bind_by m by_slots (bind_to m by_slots 1023) k v env ps r) (λ b. pure b.0))) is

  pub variable_assigned : (t : TargetExpr) (n : Identifier) (v : Datum) (env : Frame) (s : S) → t ≡ target.Name n → assign m by_slots eval t v env s ≡ done (fill env (slot_of n.referent) v) s
  variable_assigned t n v env s is = assign_by t (TargetExpr-F.TargetExpr::Name n) v env s (ap out-TargetExpr is ∙ target.outs-Name n)

  -- `x[i] = v`: a single target needs no list of places
  pub item_assigned : (t : TargetExpr) (x i : Expr) (v : Datum) (env : Frame) (s : S) → t ≡ target.Index x i
      → assign m by_slots eval t v env s ≡ following (eval x env s) (λ u r. following (eval i env r) (λ w q. following (m.set_index u w v q) (λ _. pure env)))
  unfolding place bind_place
  item_assigned t x i v env s is =
      let last : Places → Action S Frame = λ ps r. following (bind_place m v env ps r) (λ b. pure b.0) in
      assign_by t (TargetExpr-F.TargetExpr::Index x i) v env s (ap out-TargetExpr is ∙ target.outs-Index x i)
      ∙ (following_twice (eval x env s) (λ u r. following (eval i env r) (λ w. pure ([] ++ (u, w) ∷ []))) last
      ∙ (λ k. following (eval x env s) (λ u r. (following_twice (eval i env r) (λ w. pure ([] ++ (u, w) ∷ [])) last
      ∙ (λ j. following (eval i env r) (λ w q. following_twice {B = Frame × Places} (m.set_index u w v q) (λ _. pure (env, [])) (λ b. pure b.0) j))) k)))

  -- `t op= x`, by the form of t
  module _ (t : TargetExpr) (op : Operator) (x : Expr) (env : Frame) (s : S) where
    augment_in : (l : TargetLayer) → out-TargetExpr t ≡ l → augment m by_slots eval t op x env s ≡ augment_by m by_slots eval l op x env s
    unfolding augment
    augment_in l is = ap (λ k. augment_by m by_slots eval k op x env s) is

    pub variable_augmented : (n : Identifier) → t ≡ target.Name n → augment m by_slots eval t op x env s ≡ augment_name m by_slots eval n op x env s
    variable_augmented n is = augment_in (TargetExpr-F.TargetExpr::Name n) (ap out-TargetExpr is ∙ target.outs-Name n)

    pub item_augmented : (y i : Expr) → t ≡ target.Index y i → augment m by_slots eval t op x env s ≡ augment_index m eval y i op x env s
    item_augmented y i is = augment_in (TargetExpr-F.TargetExpr::Index y i) (ap out-TargetExpr is ∙ target.outs-Index y i)

    pub no_tuple_augmented : (ts : List TargetExpr) → t ≡ target.Tuple ts → augment m by_slots eval t op x env s ≡ stuck m s
    no_tuple_augmented ts is = augment_in (TargetExpr-F.TargetExpr::Tuple ts) (ap out-TargetExpr is ∙ target.outs-Tuple ts)

    pub no_list_augmented : (ts : List TargetExpr) → t ≡ target.List ts → augment m by_slots eval t op x env s ≡ stuck m s
    no_list_augmented ts is = augment_in (TargetExpr-F.TargetExpr::List ts) (ap out-TargetExpr is ∙ target.outs-List ts)

  -- the places of a target, by its form
  module _ (inner : TargetExpr → Frame → Places → Action S Places) (t : TargetExpr) (env : Frame) (ps : Places) (s : S) where
    places_in : (l : TargetLayer) → out-TargetExpr t ≡ l → places_of m eval inner t env ps s ≡ places_by m eval inner l env ps s
    unfolding places_of
    places_in l is = ap (λ k. places_by m eval inner k env ps s) is

    pub no_places : (n : Identifier) → t ≡ target.Name n → places_of m eval inner t env ps s ≡ done ps s
    no_places n is = places_in (TargetExpr-F.TargetExpr::Name n) (ap out-TargetExpr is ∙ target.outs-Name n)

    pub index_places : (x i : Expr) → t ≡ target.Index x i → places_of m eval inner t env ps s ≡ place m eval x i env ps s
    index_places x i is = places_in (TargetExpr-F.TargetExpr::Index x i) (ap out-TargetExpr is ∙ target.outs-Index x i)

    pub tuple_places : (ts : List TargetExpr) → t ≡ target.Tuple ts → places_of m eval inner t env ps s ≡ places_each m eval inner ts env ps s
    tuple_places ts is = places_in (TargetExpr-F.TargetExpr::Tuple ts) (ap out-TargetExpr is ∙ target.outs-Tuple ts)

    pub list_places : (ts : List TargetExpr) → t ≡ target.List ts → places_of m eval inner t env ps s ≡ places_each m eval inner ts env ps s
    list_places ts is = places_in (TargetExpr-F.TargetExpr::List ts) (ap out-TargetExpr is ∙ target.outs-List ts)

  -- a name whose value is known
  pub name_augmented : (n : Identifier) (op : Operator) (x : Expr) (env : Frame) (old : Datum) (s : S) → bound m (env (slot_of n.referent)) s ≡ done old s
      → augment_name m by_slots eval n op x env s ≡ following (following (eval x env s) (m.augment op old)) (λ new. pure (fill env (slot_of n.referent) new))
  unfolding augment_name
  name_augmented n op x env old s is = rw is (sym (following_twice (eval x env s) (m.augment op old) (λ new. pure (fill env (slot_of n.referent) new))))

  -- a name whose value is in its slot
  pub filled_augmented : (t : TargetExpr) (n : Identifier) (op : Operator) (x : Expr) (env : Frame) (old : Datum) (s : S) → t ≡ target.Name n → env (slot_of n.referent) ≡ Some old
      → augment m by_slots eval t op x env s ≡ following (following (eval x env s) (m.augment op old)) (λ new. pure (fill env (slot_of n.referent) new))
  unfolding bound
  filled_augmented t n op x env old s is full = variable_augmented t op x env s n is ∙ name_augmented n op x env old s (ap (λ o. bound m o s) full)

  -- an operand and an index whose values are known
  pub index_augmented : (y i : Expr) (op : Operator) (x : Expr) (env : Frame) (u w : Datum) (s one two : S) → eval y env s ≡ done u one → eval i env one ≡ done w two
      → augment_index m eval y i op x env s ≡ following (following (m.index u w two) (λ old t. following (following (eval x env t) (m.augment op old)) (m.set_index u w))) (λ _. pure env)
  unfolding augment_index
  index_augmented y i op x env u w s one two first second =
      rw (first, second) (sym (following_twice (m.index u w two) (λ old t. following (following (eval x env t) (m.augment op old)) (m.set_index u w)) (λ _. pure env)
      ∙ (λ k. following (m.index u w two) (λ old t. (following_twice (following (eval x env t) (m.augment op old)) (m.set_index u w) (λ _. pure env) ∙ following_twice (eval x env t) (m.augment op old) (λ new r. following (m.set_index u w new r) (λ _. pure env))) k))))

-- the only variable of a `for`, and one of several
module _ {S : Type 0} (m : Primitives S) (t : TargetExpr) (n : Identifier) (v : Datum) (env : Frame) (s : S) (is : t ≡ target.Name n) where
  pub variable_bound : (inner : TargetExpr → Binds S Frame) (ps : Places) → bind_target m by_slots inner t v env ps s ≡ done (fill env (slot_of n.referent) v, ps) s
  unfolding bind_target
  variable_bound inner ps = ap (λ l. bind_by m by_slots inner l v env ps s) (ap out-TargetExpr is ∙ target.outs-Name n)

  pub only_variable_bound : bind_variables m by_slots t v env s ≡ done (fill env (slot_of n.referent) v) s
  unfolding bind_variables bind_to max_layers
  only_variable_bound = ap (λ b. following b (λ b. pure b.0)) (variable_bound (bind_to m by_slots 1023) [])

-- the parts of a target that is no variable
module _ {S : Type 0} (m : Primitives S) (inner : TargetExpr → Binds S Frame) (t : TargetExpr) (v : Datum) (env : Frame) (ps : Places) (s : S) where
  bound_in : (l : TargetLayer) → out-TargetExpr t ≡ l → bind_target m by_slots inner t v env ps s ≡ bind_by m by_slots inner l v env ps s
  unfolding bind_target
  bound_in l is = ap (λ k. bind_by m by_slots inner k v env ps s) is

  pub index_bound : (x i : Expr) → t ≡ target.Index x i → bind_target m by_slots inner t v env ps s ≡ bind_place m v env ps s
  index_bound x i is = bound_in (TargetExpr-F.TargetExpr::Index x i) (ap out-TargetExpr is ∙ target.outs-Index x i)

  pub tuple_bound : (ts : List TargetExpr) → t ≡ target.Tuple ts → bind_target m by_slots inner t v env ps s ≡ unpack m inner ts v env ps s
  tuple_bound ts is = bound_in (TargetExpr-F.TargetExpr::Tuple ts) (ap out-TargetExpr is ∙ target.outs-Tuple ts)

  pub list_bound : (ts : List TargetExpr) → t ≡ target.List ts → bind_target m by_slots inner t v env ps s ≡ unpack m inner ts v env ps s
  list_bound ts is = bound_in (TargetExpr-F.TargetExpr::List ts) (ap out-TargetExpr is ∙ target.outs-List ts)
