-- A relation that respects the rules holds of expressions.
use Rattle.std.proofs.Common.{◌≡◌, ◌∙◌, sym, ap, subst, refl, ℕ, zero, suc, List, [], ◌∷◌, ◌++◌, length, reverse, Option, Some, None, ◌≤◌, not-suc-le-zero, le_of_suc-le-suc}
use Rattle.std.specs.List.{AllByRecursion}
use Rattle.bq_parse_grammar.specs.declared.tree.Comparison.{Comparison}
use Rattle.bq_parse_grammar.specs.declared.tree.Operator.{Operator}
use Rattle.bq_parse_grammar.specs.declared.tree.UnaryOperator.{UnaryOperator}
use Rattle.bq_parse_grammar.specs.declared.tree.Expr.{Expr, out-Expr}
use Rattle.bq_parse_grammar.specs.declared.tree.Argument.TheOpen.{Expr-F, Argument-F, Suffix-F}
use Rattle.bq_parse_grammar.specs.declared.tree.Argument.{Argument, out-Argument}
use Rattle.bq_parse_grammar.specs.declared.tree.Choice.{Choice, out-Choice}
use Rattle.bq_parse_grammar.specs.declared.tree.Operation.{Operation, out-Operation}
use Rattle.bq_parse_grammar.specs.declared.tree.Pair.{Pair, out-Pair}
use Rattle.bq_parse_grammar.specs.declared.tree.Suffix.{Suffix, out-Suffix, out-roll-Suffix}
use Rattle.bq_parse_grammar.specs.Targets.{ExprLayer, SuffixLayer}
use Rattle.bq_parse_grammar.specs.declared.tree.Identifier.{Identifier}
use Rattle.bq_parse_grammar.specs.declared.tree.Operator.TheVariants as operator
use Rattle.bq_parse_grammar.specs.declared.tree.Suffix.TheVariants as suffix
use Rattle.bq_predeclared.specs.declared.predeclared.Predeclared.{Predeclared}
use Rattle.bq_value.specs.Contents.{Contents, items, pairs}
use Rattle.bq_value.specs.Datum.{Datum, none, int, string, tuple, data_of}
use Rattle.bq_builtin_machine.specs.Action.{Action}
use Rattle.bq_builtin_machine.specs.Args.{Passed, nothing_passed}
use Rattle.bq_eval_spec.specs.Primitives.{Primitives, stuck_fault}
use Rattle.bq_eval_spec.specs.Expressions.{value_by, member_by, use_of, literal, unary_each, values, list_display, tuple_display, pair, pairs_each, dict_display, unary, operation_by, operation, operations, binary, compare, choice, chosen, conditional, index, part, slice, argument_by, argument, arguments, method, call_of, suffix_by, suffix, suffixes, operand, call_member, primary_by, primary, expr_by, expr, expr_to}
use Rattle.bq_eval_spec.specs.Comprehensions.{element, pair_element}
use Rattle.bq_eval_spec.specs.Environment.{NameValue, variable, predeclared, NamespaceCall, Scoping}
use Rattle.bq_eval_spec.specs.Trees.{Eval, Calls, ArgumentLayer}
use Rattle.bq_eval_laws.specs.Depth.{MembersAreSuffixes}
use Rattle.bq_eval_laws.specs.Layers.{MemberParts, PairParts, OperationParts, ChoiceParts, ArgumentLayerParts, ArgumentParts, OptionalParts, SuffixLayerParts, SuffixParts, ExprParts, IsWithin}
use Rattle.bq_eval_laws.proofs.Anything.{Holds, member}
use Rattle.bq_eval_laws.proofs.Respects.{Relation, Respects}
use Rattle.bq_eval_laws.proofs.TargetRules.{bound_rule}
use Rattle.bq_eval_laws.proofs.ComprehensionRules.{element_rule, made_pair_rule, comprehension_rule}
use Rattle.bq_eval_laws.proofs.Anything as anything

module _ {S Round V : Type 0} (m : Primitives S) (scoping : Scoping Round V) (K : Relation S) (R : Respects m K) where
  -- ---- names

  value_rule : (o : Option NameValue) → K Datum (value_by m o) (value_by m o)
  value_rule None = R.of_stop Datum stuck_fault
  value_rule (Some (variable v)) = bound_rule m scoping K R v
  value_rule (Some (predeclared p)) = R.of_value Datum (m.predeclared p)

  member_rule : (o : Option Predeclared) → K Datum (member_by m o) (member_by m o)
  member_rule None = R.of_stop Datum stuck_fault
  member_rule (Some p) = R.of_value Datum (m.predeclared p)

  use_rule : (round : Round) (n : Identifier) (env : V) → K Datum (use_of m scoping round n env) (use_of m scoping round n env)
  unfolding use_of
  use_rule round n env = R.of_both _ _ _ _ _ _ (R.of_step 1) (λ _. value_rule (scoping.value round env n))

  literal_rule : (v : Datum) → K Datum (literal m v) (literal m v)
  unfolding literal
  literal_rule v = R.of_both _ _ _ _ _ _ (R.of_step 1) (λ _. R.of_value Datum v)

  unary_each_rule : (os : List UnaryOperator) (v : Datum) → K Datum (unary_each m os v) (unary_each m os v)
  unfolding unary_each
  unary_each_rule [] v = R.of_value Datum v
  unary_each_rule (o ∷ os) v = R.of_both _ _ _ _ _ _ (R.of_unary o v) (λ u. unary_each_rule os u)

  module _ (P : Expr → Type 0) (eval other : Eval S V) (evals : (x : Expr) → P x → (env : V) → K Datum (eval x env) (other x env)) where
    -- ---- displays

    pub values_rule : (xs : List Expr) → AllByRecursion P xs → (env : V) (vs : List Datum) → K (List Datum) (values m eval xs env vs) (values m other xs env vs)
    unfolding values
    values_rule [] all env vs = R.of_value (List Datum) vs
    values_rule (x ∷ xs) all env vs = R.of_both _ _ _ _ _ _ (evals x all.0 env) (λ v. values_rule xs all.1 env (vs ++ v ∷ []))

    list_rule : (xs : List Expr) → AllByRecursion P xs → (env : V) → K Datum (list_display m eval xs env) (list_display m other xs env)
    unfolding list_display
    list_rule xs all env = R.of_both _ _ _ _ _ _ (R.of_step 1) (λ _. R.of_both _ _ _ _ _ _ (values_rule xs all env []) (λ vs. R.of_make (items vs)))

    tuple_rule : (xs : List Expr) → AllByRecursion P xs → (env : V) → K Datum (tuple_display m eval xs env) (tuple_display m other xs env)
    unfolding tuple_display
    tuple_rule xs all env = R.of_both _ _ _ _ _ _ (R.of_step 1) (λ _. R.of_both _ _ _ _ _ _ (values_rule xs all env []) (λ vs. R.of_value Datum (tuple (data_of vs))))

    pair_rule : (p : Pair) → PairParts P p → (env : V) (c : Contents) → K Contents (pair m eval p env c) (pair m other p env c)
    unfolding pair
    pair_rule p h env c =
        R.of_both _ _ _ _ _ _ (evals (out-Pair p).key h.0 env) (λ k. R.of_both _ _ _ _ _ _ (evals (out-Pair p).value h.1 env) (λ v. R.of_add_pair c k v))

    pairs_rule : (ps : List Pair) → AllByRecursion (PairParts P) ps → (env : V) (c : Contents) → K Contents (pairs_each m eval ps env c) (pairs_each m other ps env c)
    unfolding pairs_each
    pairs_rule [] all env c = R.of_value Contents c
    pairs_rule (p ∷ ps) all env c = R.of_both _ _ _ _ _ _ (pair_rule p all.0 env c) (λ d. pairs_rule ps all.1 env d)

    dict_rule : (ps : List Pair) → AllByRecursion (PairParts P) ps → (env : V) → K Datum (dict_display m eval ps env) (dict_display m other ps env)
    unfolding dict_display
    dict_rule ps all env = R.of_both _ _ _ _ _ _ (R.of_step 1) (λ _. R.of_both _ _ _ _ _ _ (pairs_rule ps all env (pairs [])) (λ c. R.of_make c))

    -- ---- operators

    unary_rule : (os : List UnaryOperator) (x : Expr) → P x → (env : V) → K Datum (unary m eval os x env) (unary m other os x env)
    unfolding unary
    unary_rule os x h env = R.of_both _ _ _ _ _ _ (R.of_step (length os)) (λ _. R.of_both _ _ _ _ _ _ (evals x h env) (λ v. unary_each_rule (reverse os) v))

    operation_by_rule : (o : Operator) (x : Expr) → P x → (env : V) (v : Datum) → K Datum (operation_by m eval o x env v) (operation_by m other o x env v)
    operation_by_rule operator.And x h env v = R.of_choice Datum v _ _ _ _ (evals x h env) (R.of_value Datum v)
    operation_by_rule operator.Or x h env v = R.of_choice Datum v _ _ _ _ (R.of_value Datum v) (evals x h env)
    operation_by_rule o x h env v = R.of_both _ _ _ _ _ _ (evals x h env) (λ u. R.of_binary o v u)

    operation_rule : (o : Operation) → OperationParts P o → (env : V) (v : Datum) → K Datum (operation m eval o env v) (operation m other o env v)
    unfolding operation
    operation_rule o h env v = operation_by_rule (out-Operation o).operator (out-Operation o).operand h env v

    operations_rule : (os : List Operation) → AllByRecursion (OperationParts P) os → (env : V) (v : Datum) → K Datum (operations m eval os env v) (operations m other os env v)
    unfolding operations
    operations_rule [] all env v = R.of_value Datum v
    operations_rule (o ∷ os) all env v = R.of_both _ _ _ _ _ _ (operation_rule o all.0 env v) (λ u. operations_rule os all.1 env u)

    binary_rule : (x : Expr) (os : List Operation) → P x → AllByRecursion (OperationParts P) os → (env : V) → K Datum (binary m eval x os env) (binary m other x os env)
    unfolding binary
    binary_rule x os h all env = R.of_both _ _ _ _ _ _ (R.of_step (length os)) (λ _. R.of_both _ _ _ _ _ _ (evals x h env) (λ v. operations_rule os all env v))

    compare_rule : (x : Expr) (o : Comparison) (y : Expr) → P x → P y → (env : V) → K Datum (compare m eval x o y env) (compare m other x o y env)
    unfolding compare
    compare_rule x o y h k env =
        R.of_both _ _ _ _ _ _ (R.of_step 1) (λ _. R.of_both _ _ _ _ _ _ (evals x h env) (λ v. R.of_both _ _ _ _ _ _ (evals y k env) (λ w. R.of_compare o v w)))

    -- ---- conditionals

    choice_rule : (c : Choice) → ChoiceParts P c → (env : V) → K (Option Datum) (choice m eval c env) (choice m other c env)
    unfolding choice
    choice_rule c h env =
        R.of_both _ _ _ _ _ _ (R.of_step 1)
        (λ _. R.of_both _ _ _ _ _ _ (evals (out-Choice c).condition h.0 env)
        (λ t. R.of_choice (Option Datum) t _ _ _ _
        (R.of_both _ _ _ _ _ _ (evals (out-Choice c).value h.1 env) (λ v. R.of_value (Option Datum) (Some v))) (R.of_value (Option Datum) None)))

    chosen_rule : (a d : Action S Datum) → K Datum a d → (o : Option Datum) → K Datum (chosen m eval a o) (chosen m other d o)
    chosen_rule a d h None = h
    chosen_rule a d h (Some v) = R.of_value Datum v

    conditional_rule : (cs : List Choice) → AllByRecursion (ChoiceParts P) cs → (x : Expr) → P x → (env : V) → K Datum (conditional m eval cs x env) (conditional m other cs x env)
    unfolding conditional
    conditional_rule [] all x h env = evals x h env
    conditional_rule (c ∷ cs) all x h env =
        R.of_both _ _ _ _ _ _ (choice_rule c all.0 env) (λ o. chosen_rule (conditional m eval cs x env) (conditional m other cs x env) (conditional_rule cs all.1 x h env) o)

    -- ---- what is done to an operand

    index_rule : (i : Expr) → P i → (env : V) (v : Datum) → K Datum (index m eval i env v) (index m other i env v)
    unfolding index
    index_rule i h env v = R.of_both _ _ _ _ _ _ (evals i h env) (λ w. R.of_index v w)

    part_rule : (x : Option Expr) → OptionalParts P x → (env : V) → K Datum (part m eval x env) (part m other x env)
    unfolding part
    part_rule None h env = R.of_value Datum none
    part_rule (Some x) h env = evals x h env

    slice_rule : (i j k : Option Expr) → OptionalParts P i → OptionalParts P j → OptionalParts P k → (env : V) (v : Datum) → K Datum (slice m eval i j k env v) (slice m other i j k env v)
    unfolding slice
    slice_rule i j k hi hj hk env v =
        R.of_both _ _ _ _ _ _ (part_rule i hi env) (λ x. R.of_both _ _ _ _ _ _ (part_rule j hj env) (λ y. R.of_both _ _ _ _ _ _ (part_rule k hk env) (λ z. R.of_slice v x y z)))

    argument_by_rule : (a : ArgumentLayer) → ArgumentLayerParts P a → (env : V) (p : Passed) → K Passed (argument_by m eval a env p) (argument_by m other a env p)
    argument_by_rule (Argument-F.Positional x) h env p = R.of_both _ _ _ _ _ _ (evals x h env) (λ v. R.of_pass p v)
    argument_by_rule (Argument-F.Named name x) h env p = R.of_both _ _ _ _ _ _ (evals x h env) (λ v. R.of_pass_named p name v)
    argument_by_rule (Argument-F.Star x) h env p = R.of_both _ _ _ _ _ _ (evals x h env) (λ v. R.of_pass_all p v)
    argument_by_rule (Argument-F.StarStar x) h env p = R.of_both _ _ _ _ _ _ (evals x h env) (λ v. R.of_pass_all_named p v)

    argument_rule : (a : Argument) → ArgumentParts P a → (env : V) (p : Passed) → K Passed (argument m eval a env p) (argument m other a env p)
    unfolding argument
    argument_rule a h env p = argument_by_rule (out-Argument a) h env p

    arguments_rule : (xs : List Argument) → AllByRecursion (ArgumentParts P) xs → (env : V) (p : Passed) → K Passed (arguments m eval xs env p) (arguments m other xs env p)
    unfolding arguments
    arguments_rule [] all env p = R.of_value Passed p
    arguments_rule (a ∷ xs) all env p = R.of_both _ _ _ _ _ _ (argument_rule a all.0 env p) (λ q. arguments_rule xs all.1 env q)

    method_rule : (name : List ℕ) (xs : List Argument) → AllByRecursion (ArgumentParts P) xs → (env : V) (v : Datum) → K Datum (method m eval name xs env v) (method m other name xs env v)
    unfolding method
    method_rule name xs all env v = R.of_both _ _ _ _ _ _ (arguments_rule xs all env nothing_passed) (λ p. R.of_method name v p)

    module _ (call : Calls S) (calls : (v : Datum) (p : Passed) → K Datum (call v p) (call v p)) where
      call_rule : (xs : List Argument) → AllByRecursion (ArgumentParts P) xs → (env : V) (v : Datum) → K Datum (call_of m eval call xs env v) (call_of m other call xs env v)
      unfolding call_of
      call_rule xs all env v = R.of_both _ _ _ _ _ _ (arguments_rule xs all env nothing_passed) (λ p. calls v p)

      suffix_by_rule : (o : SuffixLayer) → SuffixLayerParts P o → (env : V) (v : Datum) → K Datum (suffix_by m eval call o env v) (suffix_by m other call o env v)
      suffix_by_rule (Suffix-F.Call xs) h env v = call_rule xs h env v
      suffix_by_rule (Suffix-F.Method n xs) h env v = method_rule n.name xs h env v
      suffix_by_rule (Suffix-F.Attribute name) h env v = R.of_stop Datum stuck_fault
      suffix_by_rule (Suffix-F.Suffix::Index i) h env v = index_rule i h env v
      suffix_by_rule (Suffix-F.Slice i j k) h env v = slice_rule i j k h.0 h.1 h.2 env v

      suffix_rule : (x : Suffix) → SuffixParts P x → (env : V) (v : Datum) → K Datum (suffix m eval call x env v) (suffix m other call x env v)
      unfolding suffix
      suffix_rule x h env v = suffix_by_rule (out-Suffix x) h env v

      suffixes_rule : (xs : List Suffix) → AllByRecursion (SuffixParts P) xs → (env : V) (v : Datum) → K Datum (suffixes m eval call xs env v) (suffixes m other call xs env v)
      unfolding suffixes
      suffixes_rule [] all env v = R.of_value Datum v
      suffixes_rule (x ∷ xs) all env v = R.of_both _ _ _ _ _ _ (suffix_rule x all.0 env v) (λ u. suffixes_rule xs all.1 env u)

      operand_rule : (x : Expr) (ss : List Suffix) → P x → AllByRecursion (SuffixParts P) ss → (env : V) → K Datum (operand m eval call x ss env) (operand m other call x ss env)
      unfolding operand
      operand_rule x ss h all env = R.of_both _ _ _ _ _ _ (R.of_step (length ss)) (λ _. R.of_both _ _ _ _ _ _ (evals x h env) (λ v. suffixes_rule ss all env v))

      call_member_rule : (found : Option Predeclared) (xs : List Argument) (rest : List Suffix) → AllByRecursion (ArgumentParts P) xs → AllByRecursion (SuffixParts P) rest → (env : V)
          → K Datum (call_member m eval call found xs rest env) (call_member m other call found xs rest env)
      unfolding call_member
      call_member_rule found xs rest h all env =
          R.of_both _ _ _ _ _ _ (R.of_step (suc (length rest)))
          (λ _. R.of_both _ _ _ _ _ _ (member_rule found) (λ v. R.of_both _ _ _ _ _ _ (call_rule xs h env v) (λ u. suffixes_rule rest all env u)))

      module _ (round : Round) (members : (x : Expr) (ss : List Suffix) (env : V) → AllByRecursion (SuffixParts P) ss → MemberParts P (scoping.member round env x ss)) where
        primary_by_rule : (x : Expr) (ss : List Suffix) (o : Option NamespaceCall) → P x → AllByRecursion (SuffixParts P) ss → MemberParts P o → (env : V)
            → K Datum (primary_by m scoping eval call round x ss o env) (primary_by m scoping other call round x ss o env)
        primary_by_rule x ss None h all called env = operand_rule x ss h all env
        primary_by_rule x ss (Some (found, xs, rest)) h all called env = call_member_rule found xs rest called.0 called.1 env

        primary_rule : (x : Expr) (ss : List Suffix) → P x → AllByRecursion (SuffixParts P) ss → (env : V) → K Datum (primary m scoping eval call round x ss env) (primary m scoping other call round x ss env)
        unfolding primary
        primary_rule x ss h all env = primary_by_rule x ss (scoping.member round env x ss) h all (members x ss env all) env

        expr_by_rule : (o : ExprLayer) → ExprParts P o → (env : V) → K Datum (expr_by m scoping eval call round o env) (expr_by m scoping other call round o env)
        expr_by_rule (Expr-F.Expr::Name n) h env = use_rule round n env
        expr_by_rule (Expr-F.Int n) h env = literal_rule (int n)
        expr_by_rule (Expr-F.String t) h env = literal_rule (string t)
        expr_by_rule (Expr-F.Expr::List xs) h env = list_rule xs h env
        expr_by_rule (Expr-F.Expr::Tuple xs) h env = tuple_rule xs h env
        expr_by_rule (Expr-F.Dict ps) h env = dict_rule ps h env
        expr_by_rule (Expr-F.ListComprehension x cs own) h env =
            comprehension_rule m scoping K R P eval other evals (element m eval x) (element m other x) (element_rule m scoping K R P eval other evals x h.0) (items []) cs h.1 own env
        expr_by_rule (Expr-F.DictComprehension p cs own) h env =
            comprehension_rule m scoping K R P eval other evals (pair_element m eval p) (pair_element m other p) (made_pair_rule m scoping K R P eval other evals p h.0) (pairs []) cs h.1 own env
        expr_by_rule (Expr-F.Primary x ss) h env = primary_rule x ss h.0 h.1 env
        expr_by_rule (Expr-F.Unary os x) h env = unary_rule os x h env
        expr_by_rule (Expr-F.Binary x os) h env = binary_rule x os h.0 h.1 env
        expr_by_rule (Expr-F.Compare x o y) h env = compare_rule x o y h.0 h.1 env
        expr_by_rule (Expr-F.Conditional cs x) h env = conditional_rule cs h.0 x h.1 env
        expr_by_rule Expr-F.Lambda h env = R.of_stop Datum stuck_fault

        pub expr_rule : (e : Expr) → ExprParts P (out-Expr e) → (env : V) → K Datum (expr m scoping eval call round e env) (expr m scoping other call round e env)
        unfolding expr
        expr_rule e h env = expr_by_rule (out-Expr e) h env

  -- the arguments of a namespace's member that is called are those of the first suffix
  called_parts : (P : Expr → Type 0) (n : Identifier) (xs : List Argument) (ss rest : List Suffix) → ss ≡ suffix.Method n xs ∷ rest → AllByRecursion (SuffixParts P) ss
      → AllByRecursion (ArgumentParts P) xs × AllByRecursion (SuffixParts P) rest
  called_parts P n xs ss rest same all =
      let both : AllByRecursion (SuffixParts P) (suffix.Method n xs ∷ rest) = subst (λ l. AllByRecursion (SuffixParts P) l) same all in
      let opened : out-Suffix (suffix.Method n xs) ≡ Suffix-F.Method n xs = sym (ap out-Suffix (suffix.rolls-Method n xs)) ∙ out-roll-Suffix (Suffix-F.Method n xs) in
      (subst (λ o. SuffixLayerParts P o) opened both.0, both.1)

  member_parts : (P : Expr → Type 0) (ss : List Suffix) (o : Option NamespaceCall)
      → ((found : Option Predeclared) (xs : List Argument) (rest : List Suffix) → o ≡ Some (found, xs, rest) → (n : Identifier) × (ss ≡ suffix.Method n xs ∷ rest))
      → AllByRecursion (SuffixParts P) ss → MemberParts P o
  member_parts P ss None are all = tt
  member_parts P ss (Some (found, xs, rest)) are all = let is : (n : Identifier) × (ss ≡ suffix.Method n xs ∷ rest) = are found xs rest refl in called_parts P is.0 xs ss rest is.1 all

  module _ (call : Calls S) (calls : (v : Datum) (p : Passed) → K Datum (call v p) (call v p)) (round : Round) where
    -- at a depth that suffices, and at a greater one
    pub expr_depths : MembersAreSuffixes scoping → (n k : ℕ) → n ≤ k → (e : Expr) → IsWithin n e → (env : V) → K Datum (expr_to n m scoping call round e env) (expr_to k m scoping call round e env)
    unfolding expr_to IsWithin
    expr_depths are zero k few e fits env = absurd fits
    expr_depths are (suc n) zero few e fits env = absurd (not-suc-le-zero few)
    expr_depths are (suc n) (suc k) few e fits env =
        expr_rule (IsWithin n) (expr_to n m scoping call round) (expr_to k m scoping call round) (expr_depths are n k (le_of_suc-le-suc few)) call calls round
        (λ x ss inside. member_parts (IsWithin n) ss (scoping.member round inside x ss) (are round inside x ss)) e fits env

    pub eval_rule : (n : ℕ) (e : Expr) (env : V) → K Datum (expr_to n m scoping call round e env) (expr_to n m scoping call round e env)
    unfolding expr_to
    eval_rule zero e env = R.of_stop Datum stuck_fault
    eval_rule (suc n) e env =
        expr_rule Holds (expr_to n m scoping call round) (expr_to n m scoping call round) (λ x _. eval_rule n x) call calls round (λ x ss inside _. member (scoping.member round inside x ss)) e
        (anything.expr (out-Expr e)) env
