-- The arguments of a call are evaluated from left to right, after what is called.
use Rattle.std.proofs.Common.{◌≡◌, ◌∙◌, suc, List, length, refl, ap}
use Rattle.bq_parse_grammar.specs.declared.tree.Argument.TheOpen.{Argument-F}
use Rattle.bq_parse_grammar.specs.declared.tree.Argument.{Argument, out-Argument}
use Rattle.bq_builtin_machine.specs.Action.{done, stopped, ◌>>=◌}
use Rattle.bq_builtin_machine.specs.Args.{Passed, nothing_passed}
use Rattle.bq_builtin_machine.specs.State.{Stop}
use Rattle.bq_eval_spec.specs.Primitives.{Primitives}
use Rattle.bq_eval_spec.specs.Expressions.{argument_by, argument, arguments, method, call_of, suffix, suffixes, operand, call_member, primary_by, primary}
use Rattle.bq_eval_spec.specs.Trees.{Eval, ArgumentLayer}
use Rattle.bq_eval_spec.specs.Environment.{Scoping}
use Rattle.bq_eval_laws.specs.Arguments.{operand_of, passing, Passes, all_passed, passed_first, PassingStops, operand_stops, value_stops, stops_later, ArgumentsInOrder, ArgumentsStop, OperandsOfSuffixesFirst, MembersInOrder, SuffixesInOrder}
use Rattle.bq_eval_laws.proofs.InOrder.{goes, ends}

module _ {S V : Type 0} (m : Primitives S) (eval : Eval S V) (env : V) where
  -- an argument is its expression, and then what its value adds
  one_by : (a : ArgumentLayer) (p : Passed) (s : S) → argument_by m eval a env p s ≡ (eval (operand_of a) env >>= λ v. passing m a p v) s
  one_by (Argument-F.Positional x) p s = refl
  one_by (Argument-F.Named name x) p s = refl
  one_by (Argument-F.Star x) p s = refl
  one_by (Argument-F.StarStar x) p s = refl

  one : (a : Argument) (p : Passed) (s : S) → argument m eval a env p s ≡ (eval (operand_of (out-Argument a)) env >>= λ v. passing m (out-Argument a) p v) s
  unfolding argument
  one a p s = one_by (out-Argument a) p s

  passes : (xs : List Argument) (p q : Passed) (s t : S) → Passes m eval env xs p s q t → arguments m eval xs env p s ≡ done q t
  unfolding arguments
  passes xs p q s t all_passed = refl
  passes xs p q s t (passed_first {a = a} {xs = ys} {v = v} {q = r} {t = u} {u = w} h k rest) =
      let first : argument m eval a env p s ≡ done r w = one a p s ∙ (goes (eval (operand_of (out-Argument a)) env s) (λ x. passing m (out-Argument a) p x) v u h ∙ k) in
      goes (argument m eval a env p s) (λ x. arguments m eval ys env x) r w first ∙ passes ys r q w t rest

  passing_stops : (xs : List Argument) (p : Passed) (s : S) (why : Stop) → PassingStops m eval env xs p s why → arguments m eval xs env p s ≡ stopped why
  unfolding arguments
  passing_stops xs p s why (operand_stops {a = a} {xs = ys} h) =
      let first : argument m eval a env p s ≡ stopped why = one a p s ∙ ends (eval (operand_of (out-Argument a)) env s) (λ x. passing m (out-Argument a) p x) why h in
      ends (argument m eval a env p s) (λ x. arguments m eval ys env x) why first
  passing_stops xs p s why (value_stops {a = a} {xs = ys} {v = v} {t = t} h k) =
      let first : argument m eval a env p s ≡ stopped why = one a p s ∙ (goes (eval (operand_of (out-Argument a)) env s) (λ x. passing m (out-Argument a) p x) v t h ∙ k) in
      ends (argument m eval a env p s) (λ x. arguments m eval ys env x) why first
  passing_stops xs p s why (stops_later {a = a} {xs = ys} {v = v} {q = q} {t = t} {u = u} h k rest) =
      let first : argument m eval a env p s ≡ done q u = one a p s ∙ (goes (eval (operand_of (out-Argument a)) env s) (λ x. passing m (out-Argument a) p x) v t h ∙ k) in
      goes (argument m eval a env p s) (λ x. arguments m eval ys env x) q u first ∙ passing_stops ys q u why rest

module _ {S Round V : Type 0} (m : Primitives S) (scoping : Scoping Round V) where
  pub calls_in_order : ArgumentsInOrder m scoping
  unfolding call_of method
  calls_in_order eval env call name xs v p s t all = (
    goes (arguments m eval xs env nothing_passed s) (λ q. call v q) p t (passes m eval env xs nothing_passed p s t all),
    goes (arguments m eval xs env nothing_passed s) (λ q. m.call_method name v q) p t (passes m eval env xs nothing_passed p s t all),
  )

  pub calls_stop : ArgumentsStop m scoping
  unfolding call_of method
  calls_stop eval env call name xs v why s stop = (
    ends (arguments m eval xs env nothing_passed s) (λ q. call v q) why (passing_stops m eval env xs nothing_passed s why stop),
    ends (arguments m eval xs env nothing_passed s) (λ q. m.call_method name v q) why (passing_stops m eval env xs nothing_passed s why stop),
  )

  pub operands_of_suffixes : OperandsOfSuffixesFirst m scoping
  unfolding primary operand
  operands_of_suffixes eval round env call x xs v r s t none step h =
      ap (λ o. primary_by m scoping eval call round x xs o env r) none ∙ (goes (m.step (length xs) r) _ tt s step ∙ goes (eval x env s) (λ w. suffixes m eval call xs env w) v t h)

  pub members_in_order : MembersInOrder m scoping
  unfolding primary call_member
  members_in_order eval round env call x ss rest p xs v r s t some step h =
      ap (λ o. primary_by m scoping eval call round x ss o env r) some
      ∙ (goes (m.step (suc (length rest)) r) _ tt s step ∙ goes (call_of m eval call xs env (m.predeclared p) s) (λ u. suffixes m eval call rest env u) v t h)

  pub suffixes_in_order : SuffixesInOrder m scoping
  unfolding suffixes
  suffixes_in_order eval env call x xs v w s t h = goes (suffix m eval call x env v s) (λ u. suffixes m eval call xs env u) w t h
