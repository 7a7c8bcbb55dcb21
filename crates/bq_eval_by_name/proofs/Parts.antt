-- What is in an expression means the same in two kinds of environments, where the expressions in it do.
use Rattle.std.proofs.Common.{◌≡◌, List, [], ◌∷◌, ◌++◌, reverse, Option, Some, None, refl, subst}
use Rattle.bq_parse_grammar.specs.declared.tree.Argument.TheOpen.{Argument-F}
use Rattle.bq_parse_grammar.specs.declared.tree.Argument.{Argument, out-Argument}
use Rattle.bq_parse_grammar.specs.declared.tree.Choice.{Choice, out-Choice}
use Rattle.bq_parse_grammar.specs.declared.tree.Comparison.{Comparison}
use Rattle.bq_parse_grammar.specs.declared.tree.Expr.{Expr}
use Rattle.bq_parse_grammar.specs.declared.tree.Operation.{Operation, out-Operation}
use Rattle.bq_parse_grammar.specs.declared.tree.Operator.{Operator}
use Rattle.bq_parse_grammar.specs.declared.tree.Operator.TheVariants as operator
use Rattle.bq_parse_grammar.specs.declared.tree.Pair.{Pair, out-Pair}
use Rattle.bq_parse_grammar.specs.declared.tree.Suffix.{Suffix, out-Suffix}
use Rattle.bq_parse_grammar.specs.declared.tree.UnaryOperator.{UnaryOperator}
use Rattle.bq_parse_grammar.specs.Targets.{SuffixLayer}
use Rattle.bq_predeclared.specs.declared.predeclared.Predeclared.{Predeclared}
use Rattle.bq_resolve_scope.specs.Names.{Name}
use Rattle.bq_value.specs.Contents.{Contents, items, pairs}
use Rattle.bq_value.specs.Datum.{Datum}
use Rattle.bq_builtin_machine.specs.Action.{Action}
use Rattle.bq_builtin_machine.specs.Args.{Passed, nothing_passed}
use Rattle.bq_eval_spec.specs.Primitives.{Primitives}
use Rattle.bq_eval_spec.specs.Expressions as forms
use Rattle.bq_eval_spec.specs.Trees.{Eval, Calls, ArgumentLayer}
use Rattle.bq_eval_by_name.specs.Alike.{Alike, Same}
use Rattle.bq_eval_by_name.proofs.Runs.{itself, then_same, then_both, choice}
use Rattle.bq_eval_by_name.proofs.Walks.{Pairwise, Optional, same_length}

-- what is done in an environment of each kind, of which `R` holds, ends alike
abbrev pub Both : {S V W A : Type 0} → (V → W → Type 0) → (V → Action S A) → (W → Action S A) → Type 0
Both {S} {V} {W} R f g = (env : V) (peer : W) → R env peer → (s : S) → Alike Same (f env s) (g peer s)

-- two expressions mean the same
abbrev pub ExprAgree : {S V W : Type 0} → (V → W → Type 0) → Eval S V → Eval S W → Expr → Expr → Type 0
ExprAgree R E F x y = Both R (E x) (F y)

module _ {S V W : Type 0} (m : Primitives S) (E : Eval S V) (F : Eval S W) (R : V → W → Type 0) where
  abbrev pub Agree : Expr → Expr → Type 0
  Agree x y = ExprAgree R E F x y

  abbrev pub PairAgree : Pair → Pair → Type 0
  PairAgree p q = Agree (out-Pair p).key (out-Pair q).key × Agree (out-Pair p).value (out-Pair q).value

  abbrev pub OperationAgree : Operation → Operation → Type 0
  OperationAgree o p = ((out-Operation o).operator ≡ (out-Operation p).operator) × Agree (out-Operation o).operand (out-Operation p).operand

  abbrev pub ChoiceAgree : Choice → Choice → Type 0
  ChoiceAgree a b = Agree (out-Choice a).value (out-Choice b).value × Agree (out-Choice a).condition (out-Choice b).condition

  -- an argument's outermost layer
  abbrev pub ArgumentLayerAgree : ArgumentLayer → ArgumentLayer → Type 0
  ArgumentLayerAgree o q = (env : V) (peer : W) → R env peer → (p : Passed) (s : S) → Alike Same (forms.argument_by m E o env p s) (forms.argument_by m F q peer p s)

  abbrev pub ArgumentAgree : Argument → Argument → Type 0
  ArgumentAgree a b = ArgumentLayerAgree (out-Argument a) (out-Argument b)

  -- ---- displays

  pub values_alike : (xs ys : List Expr) → Pairwise Agree xs ys → (env : V) (peer : W) → R env peer → (vs : List Datum) (s : S)
      → Alike Same (forms.values m E xs env vs s) (forms.values m F ys peer vs s)
  unfolding forms.values
  values_alike [] [] h env peer related vs s = (refl, refl)
  values_alike (x ∷ xs) (y ∷ ys) h env peer related vs s =
      then_same Same (E x env s) (F y peer s) (λ v. forms.values m E xs env (vs ++ v ∷ [])) (λ v. forms.values m F ys peer (vs ++ v ∷ [])) (h.0 env peer related s)
      (λ v t. values_alike xs ys h.1 env peer related (vs ++ v ∷ []) t)
  values_alike [] (y ∷ ys) h env peer related vs s = absurd h
  values_alike (x ∷ xs) [] h env peer related vs s = absurd h

  pub list_alike : (xs ys : List Expr) → Pairwise Agree xs ys → Both R (forms.list_display m E xs) (forms.list_display m F ys)
  unfolding forms.list_display
  list_alike xs ys h env peer related s =
      then_both Same _ _ _ (λ _ t. then_same Same _ _ _ _ (values_alike xs ys h env peer related [] t) (λ vs u. itself (m.make (items vs) u)))

  pub tuple_alike : (xs ys : List Expr) → Pairwise Agree xs ys → Both R (forms.tuple_display m E xs) (forms.tuple_display m F ys)
  unfolding forms.tuple_display
  tuple_alike xs ys h env peer related s =
      then_both Same _ _ _ (λ _ t. then_same Same _ _ _ _ (values_alike xs ys h env peer related [] t) (λ vs u. (refl, refl)))

  pair_alike : (p q : Pair) → PairAgree p q → (env : V) (peer : W) → R env peer → (c : Contents) (s : S)
      → Alike Same (forms.pair m E p env c s) (forms.pair m F q peer c s)
  unfolding forms.pair
  pair_alike p q h env peer related c s =
      then_same Same _ _ _ _ (h.0 env peer related s) (λ k t. then_same Same _ _ _ _ (h.1 env peer related t) (λ v u. itself (m.add_pair c k v u)))

  pairs_alike : (ps qs : List Pair) → Pairwise PairAgree ps qs → (env : V) (peer : W) → R env peer → (c : Contents) (s : S)
      → Alike Same (forms.pairs_each m E ps env c s) (forms.pairs_each m F qs peer c s)
  unfolding forms.pairs_each
  pairs_alike [] [] h env peer related c s = (refl, refl)
  pairs_alike (p ∷ ps) (q ∷ qs) h env peer related c s =
      then_same Same _ _ _ _ (pair_alike p q h.0 env peer related c s) (λ d t. pairs_alike ps qs h.1 env peer related d t)
  pairs_alike [] (q ∷ qs) h env peer related c s = absurd h
  pairs_alike (p ∷ ps) [] h env peer related c s = absurd h

  pub dict_alike : (ps qs : List Pair) → Pairwise PairAgree ps qs → Both R (forms.dict_display m E ps) (forms.dict_display m F qs)
  unfolding forms.dict_display
  dict_alike ps qs h env peer related s =
      then_both Same _ _ _ (λ _ t. then_same Same _ _ _ _ (pairs_alike ps qs h env peer related (pairs []) t) (λ c u. itself (m.make c u)))

  -- ---- operators

  pub unary_alike : (os : List UnaryOperator) (x y : Expr) → Agree x y → Both R (forms.unary m E os x) (forms.unary m F os y)
  unfolding forms.unary
  unary_alike os x y h env peer related s =
      then_both Same _ _ _ (λ _ t. then_same Same _ _ _ _ (h env peer related t) (λ v u. itself (forms.unary_each m (reverse os) v u)))

  operation_by_alike : (o : Operator) (x y : Expr) → Agree x y → (env : V) (peer : W) → R env peer → (v : Datum) (s : S)
      → Alike Same (forms.operation_by m E o x env v s) (forms.operation_by m F o y peer v s)
  operation_by_alike operator.And x y h env peer related v s = choice Same (m.truth v s) _ _ _ _ s (h env peer related s) (refl, refl)
  operation_by_alike operator.Or x y h env peer related v s = choice Same (m.truth v s) _ _ _ _ s (refl, refl) (h env peer related s)
  operation_by_alike o x y h env peer related v s = then_same Same _ _ _ _ (h env peer related s) (λ w t. itself (m.binary o v w t))

  operation_alike : (o p : Operation) → OperationAgree o p → (env : V) (peer : W) → R env peer → (v : Datum) (s : S)
      → Alike Same (forms.operation m E o env v s) (forms.operation m F p peer v s)
  unfolding forms.operation
  operation_alike o p h env peer related v s =
      subst (λ z. Alike Same (forms.operation_by m E (out-Operation o).operator (out-Operation o).operand env v s) (forms.operation_by m F z (out-Operation p).operand peer v s)) h.0
      (operation_by_alike (out-Operation o).operator (out-Operation o).operand (out-Operation p).operand h.1 env peer related v s)

  operations_alike : (os ps : List Operation) → Pairwise OperationAgree os ps → (env : V) (peer : W) → R env peer → (v : Datum) (s : S)
      → Alike Same (forms.operations m E os env v s) (forms.operations m F ps peer v s)
  unfolding forms.operations
  operations_alike [] [] h env peer related v s = (refl, refl)
  operations_alike (o ∷ os) (p ∷ ps) h env peer related v s =
      then_same Same _ _ _ _ (operation_alike o p h.0 env peer related v s) (λ w t. operations_alike os ps h.1 env peer related w t)
  operations_alike [] (p ∷ ps) h env peer related v s = absurd h
  operations_alike (o ∷ os) [] h env peer related v s = absurd h

  pub binary_alike : (x y : Expr) (os ps : List Operation) → Agree x y → Pairwise OperationAgree os ps → Both R (forms.binary m E x os) (forms.binary m F y ps)
  unfolding forms.binary
  binary_alike x y os ps h k env peer related s =
      rw (same_length OperationAgree os ps k)
      (then_both Same _ _ _ (λ _ t. then_same Same _ _ _ _ (h env peer related t) (λ v u. operations_alike os ps k env peer related v u)))

  pub compare_alike : (x z : Expr) (o : Comparison) (y w : Expr) → Agree x y → Agree z w → Both R (forms.compare m E x o z) (forms.compare m F y o w)
  unfolding forms.compare
  compare_alike x z o y w h k env peer related s =
      then_both Same _ _ _ (λ _ t. then_same Same _ _ _ _ (h env peer related t) (λ v u. then_same Same _ _ _ _ (k env peer related u) (λ v2 r. itself (m.compare o v v2 r))))

  -- ---- `x if y else ..`

  choice_alike : (a b : Choice) → ChoiceAgree a b → Both R (forms.choice m E a) (forms.choice m F b)
  unfolding forms.choice
  choice_alike a b h env peer related s =
      then_both Same _ _ _
      (λ _ t. then_same Same _ _ _ _ (h.1 env peer related t) (λ v u. choice Same (m.truth v u) _ _ _ _ u (then_same Same _ _ _ _ (h.0 env peer related u) (λ w r. (refl, refl))) (refl, refl)))

  chosen_alike : (a b : Action S Datum) → ((s : S) → Alike Same (a s) (b s)) → (o : Option Datum) (s : S) → Alike Same (forms.chosen m E a o s) (forms.chosen m F b o s)
  chosen_alike a b h None s = h s
  chosen_alike a b h (Some v) s = (refl, refl)

  pub conditional_alike : (cs ds : List Choice) (x y : Expr) → Pairwise ChoiceAgree cs ds → Agree x y → Both R (forms.conditional m E cs x) (forms.conditional m F ds y)
  unfolding forms.conditional
  conditional_alike [] [] x y h k env peer related s = k env peer related s
  conditional_alike (c ∷ cs) (d ∷ ds) x y h k env peer related s =
      then_same Same _ _ _ _ (choice_alike c d h.0 env peer related s)
      (λ o t. chosen_alike (forms.conditional m E cs x env) (forms.conditional m F ds y peer) (conditional_alike cs ds x y h.1 k env peer related) o t)
  conditional_alike [] (d ∷ ds) x y h k env peer related s = absurd h
  conditional_alike (c ∷ cs) [] x y h k env peer related s = absurd h

  -- ---- what is done to an operand

  pub index_alike : (i j : Expr) → Agree i j → (env : V) (peer : W) → R env peer → (v : Datum) (s : S)
      → Alike Same (forms.index m E i env v s) (forms.index m F j peer v s)
  unfolding forms.index
  index_alike i j h env peer related v s = then_same Same _ _ _ _ (h env peer related s) (λ w t. itself (m.index v w t))

  part_alike : (i : Option Expr) (j : Option Expr) → Optional Agree i j → Both R (forms.part m E i) (forms.part m F j)
  unfolding forms.part
  part_alike None None h env peer related s = (refl, refl)
  part_alike (Some x) (Some y) h env peer related s = h env peer related s
  part_alike None (Some y) h env peer related s = absurd h
  part_alike (Some x) None h env peer related s = absurd h

  pub slice_alike : (i j k : Option Expr) (x y z : Option Expr) → Optional Agree i x → Optional Agree j y → Optional Agree k z → (env : V) (peer : W) → R env peer → (v : Datum) (s : S)
      → Alike Same (forms.slice m E i j k env v s) (forms.slice m F x y z peer v s)
  unfolding forms.slice
  slice_alike i j k x y z a b c env peer related v s =
      then_same Same _ _ _ _ (part_alike i x a env peer related s) (λ p t. then_same Same _ _ _ _ (part_alike j y b env peer related t)
      (λ q u. then_same Same _ _ _ _ (part_alike k z c env peer related u) (λ r w. itself (m.slice v p q r w))))

  pub positional_alike : (x y : Expr) → Agree x y → ArgumentLayerAgree (Argument-F.Positional x) (Argument-F.Positional y)
  positional_alike x y h env peer related p s = then_same Same _ _ _ _ (h env peer related s) (λ v t. itself (m.pass p v t))

  pub named_alike : (name : Name) (x y : Expr) → Agree x y → ArgumentLayerAgree (Argument-F.Named name x) (Argument-F.Named name y)
  named_alike name x y h env peer related p s = then_same Same _ _ _ _ (h env peer related s) (λ v t. itself (m.pass_named p name v t))

  pub star_alike : (x y : Expr) → Agree x y → ArgumentLayerAgree (Argument-F.Star x) (Argument-F.Star y)
  star_alike x y h env peer related p s = then_same Same _ _ _ _ (h env peer related s) (λ v t. itself (m.pass_all p v t))

  pub star_star_alike : (x y : Expr) → Agree x y → ArgumentLayerAgree (Argument-F.StarStar x) (Argument-F.StarStar y)
  star_star_alike x y h env peer related p s = then_same Same _ _ _ _ (h env peer related s) (λ v t. itself (m.pass_all_named p v t))

  arguments_alike : (xs ys : List Argument) → Pairwise ArgumentAgree xs ys → (env : V) (peer : W) → R env peer → (p : Passed) (s : S)
      → Alike Same (forms.arguments m E xs env p s) (forms.arguments m F ys peer p s)
  unfolding forms.arguments forms.argument
  arguments_alike [] [] h env peer related p s = (refl, refl)
  arguments_alike (x ∷ xs) (y ∷ ys) h env peer related p s =
      then_same Same _ _ _ _ (h.0 env peer related p s) (λ q t. arguments_alike xs ys h.1 env peer related q t)
  arguments_alike [] (y ∷ ys) h env peer related p s = absurd h
  arguments_alike (x ∷ xs) [] h env peer related p s = absurd h

  pub method_alike : (name : Name) (xs ys : List Argument) → Pairwise ArgumentAgree xs ys → (env : V) (peer : W) → R env peer → (v : Datum) (s : S)
      → Alike Same (forms.method m E name xs env v s) (forms.method m F name ys peer v s)
  unfolding forms.method
  method_alike name xs ys h env peer related v s =
      then_same Same _ _ _ _ (arguments_alike xs ys h env peer related nothing_passed s) (λ p t. itself (m.call_method name v p t))

  module _ (call other : Calls S) (called : (v : Datum) (p : Passed) (s : S) → call v p s ≡ other v p s) where
    -- a suffix's outermost layer
    abbrev pub SuffixLayerAgree : SuffixLayer → SuffixLayer → Type 0
    SuffixLayerAgree o q = (env : V) (peer : W) → R env peer → (v : Datum) (s : S) → Alike Same (forms.suffix_by m E call o env v s) (forms.suffix_by m F other q peer v s)

    abbrev pub SuffixAgree : Suffix → Suffix → Type 0
    SuffixAgree a b = SuffixLayerAgree (out-Suffix a) (out-Suffix b)

    pub call_alike : (xs ys : List Argument) → Pairwise ArgumentAgree xs ys → (env : V) (peer : W) → R env peer → (v : Datum) (s : S)
        → Alike Same (forms.call_of m E call xs env v s) (forms.call_of m F other ys peer v s)
    unfolding forms.call_of
    call_alike xs ys h env peer related v s =
        then_same Same _ _ _ _ (arguments_alike xs ys h env peer related nothing_passed s) (λ p t. rw (called v p t) (itself (other v p t)))

    pub suffixes_alike : (xs ys : List Suffix) → Pairwise SuffixAgree xs ys → (env : V) (peer : W) → R env peer → (v : Datum) (s : S)
        → Alike Same (forms.suffixes m E call xs env v s) (forms.suffixes m F other ys peer v s)
    unfolding forms.suffixes forms.suffix
    suffixes_alike [] [] h env peer related v s = (refl, refl)
    suffixes_alike (x ∷ xs) (y ∷ ys) h env peer related v s =
        then_same Same _ _ _ _ (h.0 env peer related v s) (λ w t. suffixes_alike xs ys h.1 env peer related w t)
    suffixes_alike [] (y ∷ ys) h env peer related v s = absurd h
    suffixes_alike (x ∷ xs) [] h env peer related v s = absurd h

    pub operand_alike : (x y : Expr) (ss ts : List Suffix) → Agree x y → Pairwise SuffixAgree ss ts → Both R (forms.operand m E call x ss) (forms.operand m F other y ts)
    unfolding forms.operand
    operand_alike x y ss ts h k env peer related s =
        rw (same_length SuffixAgree ss ts k)
        (then_both Same _ _ _ (λ _ t. then_same Same _ _ _ _ (h env peer related t) (λ v u. suffixes_alike ss ts k env peer related v u)))

    -- `native.name(arguments)` or `attr.name(arguments)`, and what is done to its result
    pub member_alike : (found : Option Predeclared) (xs ys : List Argument) (ss ts : List Suffix) → Pairwise ArgumentAgree xs ys → Pairwise SuffixAgree ss ts
        → Both R (forms.call_member m E call found xs ss) (forms.call_member m F other found ys ts)
    unfolding forms.call_member
    member_alike found xs ys ss ts h k env peer related s =
        rw (same_length SuffixAgree ss ts k)
        (then_both Same _ _ _ (λ _ t. then_both Same (forms.member_by m found t) _ _
        (λ v u. then_same Same _ _ _ _ (call_alike xs ys h env peer related v u) (λ w r. suffixes_alike ss ts k env peer related w r))))
