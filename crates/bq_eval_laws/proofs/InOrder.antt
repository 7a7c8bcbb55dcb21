-- Expressions in an expression are evaluated from left to right.
use Rattle.std.proofs.Common.{◌≡◌, ◌∙◌, List, [], ◌∷◌, ◌++◌, Option, Some, None, refl, sym, ap, append_assoc, append-nil}
use Rattle.std.specs.Prelude.{if◌then◌else◌}
use Rattle.bq_parse_grammar.specs.declared.tree.Expr.{Expr}
use Rattle.bq_parse_grammar.specs.declared.tree.Choice.{out-Choice}
use Rattle.bq_parse_grammar.specs.declared.tree.Pair.{out-Pair}
use Rattle.bq_parse_grammar.specs.declared.tree.Operator.TheVariants as operator
use Rattle.bq_value.specs.Contents.{items}
use Rattle.bq_value.specs.Datum.{Datum, tuple, data_of}
use Rattle.bq_builtin_machine.specs.Action.{Action, Run, done, stopped, following, ◌>>=◌, pure}
use Rattle.bq_builtin_machine.specs.State.{Stop}
use Rattle.bq_eval_spec.specs.Primitives.{Primitives}
use Rattle.bq_eval_spec.specs.Targets.{place}
use Rattle.bq_eval_spec.specs.Comprehensions.{pair_element, for_clause}
use Rattle.bq_eval_spec.specs.Expressions.{values, list_display, tuple_display, pair, pairs_each, operation, operations, binary, compare, choice, chosen, conditional, index, part, slice}
use Rattle.bq_eval_spec.specs.Statements.{assign_stmt}
use Rattle.bq_eval_spec.specs.Trees.{Eval}
use Rattle.bq_eval_spec.specs.Environment.{Scoping}
use Rattle.bq_eval_laws.specs.Order.{Evaluates, none_left, and_then, Stops, here, later, DisplaysInOrder, DisplaysStop, PairsInOrder, DictDisplaysInOrder, ChainsInOrder, OperatorsInOrder, MadePairsInOrder, OperandsInOrder, ComparesInOrder, IndexedInOrder, SlicedInOrder, ConditionsFirst, RightSidesFirst, PlacesInOrder, IterablesFirst}

-- what follows a run that is known
pub goes : {S A B : Type 0} (r : Run S A) (f : A → Action S B) (x : A) (t : S) → r ≡ done x t → following r f ≡ f x t
goes r f x t h = ap (λ q. following q f) h

pub ends : {S A B : Type 0} (r : Run S A) (f : A → Action S B) (why : Stop) → r ≡ stopped why → following r f ≡ stopped why
ends r f why h = ap (λ q. following q f) h

module _ {S V : Type 0} (m : Primitives S) (eval : Eval S V) (env : V) where
  pub values_in_order : (xs : List Expr) (before vs : List Datum) (s t : S) → Evaluates eval env xs s vs t → values m eval xs env before s ≡ done (before ++ vs) t
  unfolding values
  values_in_order xs before vs s t none_left = ap (λ all. done all s) (sym (append-nil before))
  values_in_order xs before vs s t (and_then {x = x} {xs = ys} {v = v} {vs = ws} {t = u} h k) =
      goes (eval x env s) (λ w. values m eval ys env (before ++ w ∷ [])) v u h
      ∙ (values_in_order ys (before ++ v ∷ []) ws u t k ∙ ap (λ all. done all t) (append_assoc before (v ∷ []) ws))

  values_stop : (xs : List Expr) (before : List Datum) (s : S) (why : Stop) → Stops eval env xs s why → values m eval xs env before s ≡ stopped why
  unfolding values
  values_stop xs before s why (here {x = x} {xs = ys} h) = ends (eval x env s) (λ w. values m eval ys env (before ++ w ∷ [])) why h
  values_stop xs before s why (later {x = x} {xs = ys} {v = v} {t = u} h k) =
      goes (eval x env s) (λ w. values m eval ys env (before ++ w ∷ [])) v u h ∙ values_stop ys (before ++ v ∷ []) u why k

module _ {S Round V : Type 0} (m : Primitives S) (scoping : Scoping Round V) where
  pub displays : DisplaysInOrder m scoping
  unfolding list_display tuple_display
  displays eval env xs vs r s t step all = (
    goes (m.step 1 r) (λ _. values m eval xs env [] >>= λ ws. m.make (items ws)) tt s step
        ∙ goes (values m eval xs env [] s) (λ ws. m.make (items ws)) vs t (values_in_order m eval env xs [] vs s t all),
    goes (m.step 1 r) (λ _. values m eval xs env [] >>= λ ws. pure (tuple (data_of ws))) tt s step
        ∙ goes (values m eval xs env [] s) (λ ws. pure (tuple (data_of ws))) vs t (values_in_order m eval env xs [] vs s t all),
  )

  pub displays_stop : DisplaysStop m scoping
  unfolding list_display
  displays_stop eval env xs why r s step stop =
      goes (m.step 1 r) (λ _. values m eval xs env [] >>= λ ws. m.make (items ws)) tt s step
      ∙ ends (values m eval xs env [] s) (λ ws. m.make (items ws)) why (values_stop m eval env xs [] s why stop)

  pub pairs : PairsInOrder m scoping
  unfolding pair
  pairs eval env p c k v s t (and_then {t = u} h (and_then g none_left)) =
      goes (eval (out-Pair p).key env s) (λ a. eval (out-Pair p).value env >>= λ b. m.add_pair c a b) k u h
      ∙ goes (eval (out-Pair p).value env u) (λ b. m.add_pair c k b) v t g

  pub dict_displays : DictDisplaysInOrder m scoping
  unfolding pairs_each
  dict_displays eval env p ps c d s t h = goes (pair m eval p env c s) (λ e. pairs_each m eval ps env e) d t h

  pub made_pairs : MadePairsInOrder m scoping
  unfolding pair_element
  made_pairs eval env p c k v s t (and_then {t = u} h (and_then g none_left)) = goes (eval (out-Pair p).key env s) _ k u h ∙ goes (eval (out-Pair p).value env u) _ v t g

  pub chains : ChainsInOrder m scoping
  unfolding binary
  chains eval env x os v r s t step h = goes (m.step _ r) _ tt s step ∙ goes (eval x env s) (λ w. operations m eval os env w) v t h

  pub operators : OperatorsInOrder m scoping
  unfolding operations
  operators eval env o os v w s t h = goes (operation m eval o env v s) (λ u. operations m eval os env u) w t h

  pub compares : ComparesInOrder m scoping
  unfolding compare
  compares eval env x o y v w r s t step (and_then {t = u} h (and_then g none_left)) =
      goes (m.step 1 r) (λ _. eval x env >>= λ a. eval y env >>= λ b. m.compare o a b) tt s step
      ∙ (goes (eval x env s) (λ a. eval y env >>= λ b. m.compare o a b) v u h ∙ goes (eval y env u) (λ b. m.compare o v b) w t g)

  pub indexed : IndexedInOrder m scoping
  unfolding index
  indexed eval env i v w s t (and_then h none_left) = goes (eval i env s) (λ a. m.index v a) w t h

  pub sliced : SlicedInOrder m scoping
  unfolding slice part
  sliced eval env i j k v x y z s t (and_then {t = u} h (and_then {t = w} g (and_then e none_left))) =
      goes (eval i env s) (λ a. eval j env >>= λ b. eval k env >>= λ c. m.slice v a b c) x u h
      ∙ (goes (eval j env u) (λ b. eval k env >>= λ c. m.slice v x b c) y w g ∙ goes (eval k env w) (λ c. m.slice v x y c) z t e)

  pub places : PlacesInOrder m scoping
  unfolding place
  places eval env x i v w s t (and_then {t = u} h (and_then g none_left)) =
      goes (eval x env s) (λ a. eval i env >>= λ b. pure ([] ++ (a, b) ∷ [])) v u h ∙ goes (eval i env u) (λ b. pure ([] ++ (v, b) ∷ [])) w t g

  pub right_sides : RightSidesFirst m scoping
  unfolding assign_stmt
  right_sides eval env target x v s t h = goes (eval x env s) _ v t h

  pub iterables : IterablesFirst m scoping
  unfolding for_clause
  iterables eval there env target x inner c v vs s t u h k = goes (eval x there s) _ v t h ∙ goes (m.begin_walk v t) _ vs u k

  pub operands : OperandsInOrder m scoping
  operands eval env operator.And y v w s t h k all = absurd (h refl)
  operands eval env operator.Or y v w s t h k all = absurd (k refl)
  operands eval env o y v w s t h k (and_then e none_left) = goes (eval y env s) (λ u. m.binary o v u) w t e

  chosen_again : (eval : Eval S V) (other : Action S Datum) (r : Run S Datum) → following (following r (λ v. pure (Some v))) (λ o. chosen m eval other o) ≡ r
  chosen_again eval other (done v s) = refl
  chosen_again eval other (stopped why) = refl

  pub conditions : ConditionsFirst m scoping
  unfolding conditional choice
  conditions eval env c cs x v r s t step h =
      let some : Action S (Option Datum) = eval (out-Choice c).value env >>= λ w. pure (Some w) in
      let rest : Option Datum → Action S Datum = λ o. chosen m eval (conditional m eval cs x env) o in
      let is : choice m eval c env r ≡ (if m.truth v t then some else pure None) t =
      goes (m.step 1 r) (λ _. eval (out-Choice c).condition env >>= λ w. λ u. (if m.truth w u then some else pure None) u) tt s step
      ∙ goes (eval (out-Choice c).condition env s) (λ w u. (if m.truth w u then some else pure None) u) v t h in (
        λ so. ap (λ q. following q rest) (is ∙ ap (λ b. (if b then some else pure None) t) so) ∙ chosen_again eval (conditional m eval cs x env) (eval (out-Choice c).value env t),
        λ so. ap (λ q. following q rest) (is ∙ ap (λ b. (if b then some else pure None) t) so),
      )
