-- Expressions do not get stuck, where they are sound: nothing in them is left out, they are no deeper than the layers
-- that are looked at, and each name refers to something.
use Rattle.std.proofs.Common.{ℕ, zero, suc, List, [], ◌∷◌, ◌++◌, length, reverse, Option, Some, None}
use Rattle.std.specs.List.{AllByRecursion}
use Rattle.bq_parse_grammar.specs.declared.tree.Argument.{Argument, out-Argument}
use Rattle.bq_parse_grammar.specs.declared.tree.Argument.TheOpen.{Expr-F, Argument-F, Suffix-F}
use Rattle.bq_parse_grammar.specs.declared.tree.Choice.{Choice, out-Choice}
use Rattle.bq_parse_grammar.specs.declared.tree.Comparison.{Comparison}
use Rattle.bq_parse_grammar.specs.declared.tree.Expr.{Expr, out-Expr}
use Rattle.bq_parse_grammar.specs.declared.tree.Identifier.{Identifier}
use Rattle.bq_parse_grammar.specs.declared.tree.Operation.{Operation, out-Operation}
use Rattle.bq_parse_grammar.specs.declared.tree.Operator.{Operator}
use Rattle.bq_parse_grammar.specs.declared.tree.Operator.TheVariants as operator
use Rattle.bq_parse_grammar.specs.declared.tree.Pair.{Pair, out-Pair}
use Rattle.bq_parse_grammar.specs.declared.tree.Referent.{Referent}
use Rattle.bq_parse_grammar.specs.declared.tree.Referent.TheVariants as r
use Rattle.bq_parse_grammar.specs.declared.tree.Suffix.{Suffix, out-Suffix}
use Rattle.bq_parse_grammar.specs.declared.tree.UnaryOperator.{UnaryOperator}
use Rattle.bq_parse_grammar.specs.Targets.{ExprLayer, SuffixLayer}
use Rattle.bq_predeclared.specs.declared.predeclared.Predeclared.{Predeclared}
use Rattle.bq_value.specs.Contents.{Contents, items, pairs}
use Rattle.bq_value.specs.Datum.{Datum, none, int, string, tuple, data_of}
use Rattle.bq_builtin_machine.specs.Action.{Action}
use Rattle.bq_builtin_machine.specs.Args.{Passed, nothing_passed}
use Rattle.bq_eval_spec.specs.Frame.{Frame, Surroundings}
use Rattle.bq_eval_spec.specs.Primitives.{Primitives}
use Rattle.bq_eval_spec.specs.Comprehensions.{element, pair_element}
use Rattle.bq_eval_spec.specs.Environment.{NamespaceCall}
use Rattle.bq_eval_spec.specs.Expressions.{value_by, member_by, use_of, literal, unary_each, values, list_display, tuple_display, pair, pairs_each, dict_display, unary, operation_by, operation, operations, binary, compare, choice, chosen, conditional, index, part, slice, argument_by, argument, arguments, method, call_of, suffix_by, suffix, suffixes, operand, call_member, primary_by, primary, expr_by, expr, expr_to}
use Rattle.bq_eval_spec.specs.Slots.{by_slots, value_at, member_at, called_by, called}
use Rattle.bq_eval_spec.specs.Trees.{Eval, Calls, ArgumentLayer}
use Rattle.bq_eval_laws.specs.Layers.{PairParts, OperationParts, ChoiceParts, ArgumentLayerParts, ArgumentParts, OptionalParts, SuffixLayerParts, SuffixParts, ExprParts}
use Rattle.bq_eval_laws.proofs.Unstuck.{value_of, both, choice_of}
use Rattle.bq_eval_laws.specs.Fits.{VariableParts}
use Rattle.bq_eval_laws.specs.Referents.{RefersToAny}
use Rattle.bq_eval_laws.specs.Stuck.{Unstuck, NeverStuck}
use Rattle.bq_eval_laws.specs.Sound.{AreNames, SuffixIsKeptLayer, SuffixIsKept, IsKept, ExprIsSoundTo}
use Rattle.bq_eval_laws.proofs.UnstuckTargetRules.{bound_rule}
use Rattle.bq_eval_laws.proofs.UnstuckComprehensionRules.{element_rule, comprehension_rule}
use Rattle.bq_eval_laws.proofs.UnstuckComprehensionRules as comprehensions

-- ---- calls of a namespace's members

module _ (P : Expr → Type 0) where
  -- what is called is there, and its arguments and what is done to the result are sound
  abbrev CallIsSound : Option NamespaceCall → Type 0
  CallIsSound None = Unit {0}
  CallIsSound (Some (None, xs, rest)) = ⊥
  CallIsSound (Some (Some p, xs, rest)) = AllByRecursion (ArgumentParts P) xs × AllByRecursion (SuffixParts P) rest × AllByRecursion SuffixIsKept rest

  called_by_sound : (p : Option Predeclared) (o : SuffixLayer) (ss : List Suffix) → SuffixLayerParts P o → AllByRecursion (SuffixParts P) ss → AllByRecursion SuffixIsKept ss → CallIsSound (called_by p o ss)
  called_by_sound None o ss h all kept = tt
  called_by_sound (Some p) (Suffix-F.Call xs) ss h all kept = tt
  called_by_sound (Some p) (Suffix-F.Method n xs) ss h all kept = (h, all, kept)
  called_by_sound (Some p) (Suffix-F.Attribute n) ss h all kept = tt
  called_by_sound (Some p) (Suffix-F.Suffix::Index i) ss h all kept = tt
  called_by_sound (Some p) (Suffix-F.Slice i j k) ss h all kept = tt

  called_sound : (p : Option Predeclared) (ss : List Suffix) → AllByRecursion (SuffixParts P) ss → AllByRecursion SuffixIsKept ss → CallIsSound (called p ss)
  called_sound p [] all kept = tt
  called_sound p (s ∷ ss) all kept = called_by_sound p (out-Suffix s) ss all.0 all.1 kept.1

module _ {S : Type 0} (m : Primitives S) (L : NeverStuck m) where
  -- ---- names

  value_rule : (round : Surroundings) (x : Referent) → RefersToAny x → (env : Frame) → Unstuck Datum (value_by m (value_at round env x))
  value_rule round (r.Unresolved line) refers env = absurd refers
  value_rule round (r.Local slot) refers env = bound_rule m L (env slot)
  value_rule round (r.Global k) refers env = bound_rule m L (round.globals k)
  value_rule round (r.Loaded k) refers env = bound_rule m L (round.loaded k)
  value_rule round (r.Predeclared p) refers env = value_of Datum (m.predeclared p)
  value_rule round (r.Member p) refers env = value_of Datum (m.predeclared p)

  use_rule : (round : Surroundings) (n : Identifier) → RefersToAny n.referent → (env : Frame) → Unstuck Datum (use_of m by_slots round n env)
  unfolding use_of
  use_rule round n refers env = both _ _ _ _ (L.of_step 1) (λ _. value_rule round n.referent refers env)

  literal_rule : (v : Datum) → Unstuck Datum (literal m v)
  unfolding literal
  literal_rule v = both _ _ _ _ (L.of_step 1) (λ _. value_of Datum v)

  unary_each_rule : (os : List UnaryOperator) (v : Datum) → Unstuck Datum (unary_each m os v)
  unfolding unary_each
  unary_each_rule [] v = value_of Datum v
  unary_each_rule (o ∷ os) v = both _ _ _ _ (L.of_unary o v) (λ u. unary_each_rule os u)

  module _ (P : Expr → Type 0) (eval : Eval S Frame) (evals : (x : Expr) → P x → (env : Frame) → Unstuck Datum (eval x env)) where
    -- ---- displays

    pub values_rule : (xs : List Expr) → AllByRecursion P xs → (env : Frame) (vs : List Datum) → Unstuck (List Datum) (values m eval xs env vs)
    unfolding values
    values_rule [] all env vs = value_of (List Datum) vs
    values_rule (x ∷ xs) all env vs = both _ _ _ _ (evals x all.0 env) (λ v. values_rule xs all.1 env (vs ++ v ∷ []))

    list_rule : (xs : List Expr) → AllByRecursion P xs → (env : Frame) → Unstuck Datum (list_display m eval xs env)
    unfolding list_display
    list_rule xs all env = both _ _ _ _ (L.of_step 1) (λ _. both _ _ _ _ (values_rule xs all env []) (λ vs. L.of_make (items vs)))

    tuple_rule : (xs : List Expr) → AllByRecursion P xs → (env : Frame) → Unstuck Datum (tuple_display m eval xs env)
    unfolding tuple_display
    tuple_rule xs all env = both _ _ _ _ (L.of_step 1) (λ _. both _ _ _ _ (values_rule xs all env []) (λ vs. value_of Datum (tuple (data_of vs))))

    pair_rule : (p : Pair) → PairParts P p → (env : Frame) (c : Contents) → Unstuck Contents (pair m eval p env c)
    unfolding pair
    pair_rule p h env c =
        both _ _ _ _ (evals (out-Pair p).key h.0 env) (λ k. both _ _ _ _ (evals (out-Pair p).value h.1 env) (λ v. L.of_add_pair c k v))

    pairs_rule : (ps : List Pair) → AllByRecursion (PairParts P) ps → (env : Frame) (c : Contents) → Unstuck Contents (pairs_each m eval ps env c)
    unfolding pairs_each
    pairs_rule [] all env c = value_of Contents c
    pairs_rule (p ∷ ps) all env c = both _ _ _ _ (pair_rule p all.0 env c) (λ d. pairs_rule ps all.1 env d)

    dict_rule : (ps : List Pair) → AllByRecursion (PairParts P) ps → (env : Frame) → Unstuck Datum (dict_display m eval ps env)
    unfolding dict_display
    dict_rule ps all env = both _ _ _ _ (L.of_step 1) (λ _. both _ _ _ _ (pairs_rule ps all env (pairs [])) (λ c. L.of_make c))

    -- ---- operators

    unary_rule : (os : List UnaryOperator) (x : Expr) → P x → (env : Frame) → Unstuck Datum (unary m eval os x env)
    unfolding unary
    unary_rule os x h env = both _ _ _ _ (L.of_step (length os)) (λ _. both _ _ _ _ (evals x h env) (λ v. unary_each_rule (reverse os) v))

    operation_by_rule : (o : Operator) (x : Expr) → P x → (env : Frame) (v : Datum) → Unstuck Datum (operation_by m eval o x env v)
    operation_by_rule operator.And x h env v = choice_of m Datum v _ _ (evals x h env) (value_of Datum v)
    operation_by_rule operator.Or x h env v = choice_of m Datum v _ _ (value_of Datum v) (evals x h env)
    operation_by_rule o x h env v = both _ _ _ _ (evals x h env) (λ u. L.of_binary o v u)

    operation_rule : (o : Operation) → OperationParts P o → (env : Frame) (v : Datum) → Unstuck Datum (operation m eval o env v)
    unfolding operation
    operation_rule o h env v = operation_by_rule (out-Operation o).operator (out-Operation o).operand h env v

    operations_rule : (os : List Operation) → AllByRecursion (OperationParts P) os → (env : Frame) (v : Datum) → Unstuck Datum (operations m eval os env v)
    unfolding operations
    operations_rule [] all env v = value_of Datum v
    operations_rule (o ∷ os) all env v = both _ _ _ _ (operation_rule o all.0 env v) (λ u. operations_rule os all.1 env u)

    binary_rule : (x : Expr) (os : List Operation) → P x → AllByRecursion (OperationParts P) os → (env : Frame) → Unstuck Datum (binary m eval x os env)
    unfolding binary
    binary_rule x os h all env = both _ _ _ _ (L.of_step (length os)) (λ _. both _ _ _ _ (evals x h env) (λ v. operations_rule os all env v))

    compare_rule : (x : Expr) (o : Comparison) (y : Expr) → P x → P y → (env : Frame) → Unstuck Datum (compare m eval x o y env)
    unfolding compare
    compare_rule x o y h k env =
        both _ _ _ _ (L.of_step 1) (λ _. both _ _ _ _ (evals x h env) (λ v. both _ _ _ _ (evals y k env) (λ w. L.of_compare o v w)))

    -- ---- conditionals

    choice_rule : (c : Choice) → ChoiceParts P c → (env : Frame) → Unstuck (Option Datum) (choice m eval c env)
    unfolding choice
    choice_rule c h env =
        both _ _ _ _ (L.of_step 1)
        (λ _. both _ _ _ _ (evals (out-Choice c).condition h.0 env)
        (λ t. choice_of m (Option Datum) t _ _
        (both _ _ _ _ (evals (out-Choice c).value h.1 env) (λ v. value_of (Option Datum) (Some v))) (value_of (Option Datum) None)))

    chosen_rule : (a : Action S Datum) → Unstuck Datum a → (o : Option Datum) → Unstuck Datum (chosen m eval a o)
    chosen_rule a h None = h
    chosen_rule a h (Some v) = value_of Datum v

    conditional_rule : (cs : List Choice) → AllByRecursion (ChoiceParts P) cs → (x : Expr) → P x → (env : Frame) → Unstuck Datum (conditional m eval cs x env)
    unfolding conditional
    conditional_rule [] all x h env = evals x h env
    conditional_rule (c ∷ cs) all x h env =
        both _ _ _ _ (choice_rule c all.0 env) (λ o. chosen_rule (conditional m eval cs x env) (conditional_rule cs all.1 x h env) o)

    -- ---- what is done to an operand

    index_rule : (i : Expr) → P i → (env : Frame) (v : Datum) → Unstuck Datum (index m eval i env v)
    unfolding index
    index_rule i h env v = both _ _ _ _ (evals i h env) (λ w. L.of_index v w)

    part_rule : (x : Option Expr) → OptionalParts P x → (env : Frame) → Unstuck Datum (part m eval x env)
    unfolding part
    part_rule None h env = value_of Datum none
    part_rule (Some x) h env = evals x h env

    slice_rule : (i j k : Option Expr) → OptionalParts P i → OptionalParts P j → OptionalParts P k → (env : Frame) (v : Datum) → Unstuck Datum (slice m eval i j k env v)
    unfolding slice
    slice_rule i j k hi hj hk env v =
        both _ _ _ _ (part_rule i hi env) (λ x. both _ _ _ _ (part_rule j hj env) (λ y. both _ _ _ _ (part_rule k hk env) (λ z. L.of_slice v x y z)))

    argument_by_rule : (a : ArgumentLayer) → ArgumentLayerParts P a → (env : Frame) (p : Passed) → Unstuck Passed (argument_by m eval a env p)
    argument_by_rule (Argument-F.Positional x) h env p = both _ _ _ _ (evals x h env) (λ v. L.of_pass p v)
    argument_by_rule (Argument-F.Named name x) h env p = both _ _ _ _ (evals x h env) (λ v. L.of_pass_named p name v)
    argument_by_rule (Argument-F.Star x) h env p = both _ _ _ _ (evals x h env) (λ v. L.of_pass_all p v)
    argument_by_rule (Argument-F.StarStar x) h env p = both _ _ _ _ (evals x h env) (λ v. L.of_pass_all_named p v)

    argument_rule : (a : Argument) → ArgumentParts P a → (env : Frame) (p : Passed) → Unstuck Passed (argument m eval a env p)
    unfolding argument
    argument_rule a h env p = argument_by_rule (out-Argument a) h env p

    arguments_rule : (xs : List Argument) → AllByRecursion (ArgumentParts P) xs → (env : Frame) (p : Passed) → Unstuck Passed (arguments m eval xs env p)
    unfolding arguments
    arguments_rule [] all env p = value_of Passed p
    arguments_rule (a ∷ xs) all env p = both _ _ _ _ (argument_rule a all.0 env p) (λ q. arguments_rule xs all.1 env q)

    method_rule : (name : List ℕ) (xs : List Argument) → AllByRecursion (ArgumentParts P) xs → (env : Frame) (v : Datum) → Unstuck Datum (method m eval name xs env v)
    unfolding method
    method_rule name xs all env v = both _ _ _ _ (arguments_rule xs all env nothing_passed) (λ p. L.of_method name v p)

    module _ (call : Calls S) (calls : (v : Datum) (p : Passed) → Unstuck Datum (call v p)) where
      call_rule : (xs : List Argument) → AllByRecursion (ArgumentParts P) xs → (env : Frame) (v : Datum) → Unstuck Datum (call_of m eval call xs env v)
      unfolding call_of
      call_rule xs all env v = both _ _ _ _ (arguments_rule xs all env nothing_passed) (λ p. calls v p)

      suffix_by_rule : (o : SuffixLayer) → SuffixLayerParts P o → SuffixIsKeptLayer o → (env : Frame) (v : Datum) → Unstuck Datum (suffix_by m eval call o env v)
      suffix_by_rule (Suffix-F.Call xs) h kept env v = call_rule xs h env v
      suffix_by_rule (Suffix-F.Method n xs) h kept env v = method_rule n.name xs h env v
      suffix_by_rule (Suffix-F.Attribute name) h kept env v = absurd kept
      suffix_by_rule (Suffix-F.Suffix::Index i) h kept env v = index_rule i h env v
      suffix_by_rule (Suffix-F.Slice i j k) h kept env v = slice_rule i j k h.0 h.1 h.2 env v

      suffix_rule : (x : Suffix) → SuffixParts P x → SuffixIsKept x → (env : Frame) (v : Datum) → Unstuck Datum (suffix m eval call x env v)
      unfolding suffix
      suffix_rule x h kept env v = suffix_by_rule (out-Suffix x) h kept env v

      suffixes_rule : (xs : List Suffix) → AllByRecursion (SuffixParts P) xs → AllByRecursion SuffixIsKept xs → (env : Frame) (v : Datum) → Unstuck Datum (suffixes m eval call xs env v)
      unfolding suffixes
      suffixes_rule [] all kept env v = value_of Datum v
      suffixes_rule (x ∷ xs) all kept env v = both _ _ _ _ (suffix_rule x all.0 kept.0 env v) (λ u. suffixes_rule xs all.1 kept.1 env u)

      operand_rule : (x : Expr) (ss : List Suffix) → P x → AllByRecursion (SuffixParts P) ss → AllByRecursion SuffixIsKept ss → (env : Frame) → Unstuck Datum (operand m eval call x ss env)
      unfolding operand
      operand_rule x ss h all kept env = both _ _ _ _ (L.of_step (length ss)) (λ _. both _ _ _ _ (evals x h env) (λ v. suffixes_rule ss all kept env v))

      call_member_rule : (p : Predeclared) (xs : List Argument) (rest : List Suffix) → AllByRecursion (ArgumentParts P) xs → AllByRecursion (SuffixParts P) rest → AllByRecursion SuffixIsKept rest → (env : Frame)
          → Unstuck Datum (call_member m eval call (Some p) xs rest env)
      unfolding call_member
      call_member_rule p xs rest h all kept env =
          both _ _ _ _ (L.of_step (suc (length rest)))
          (λ _. both _ _ (member_by m (Some p)) _ (value_of Datum (m.predeclared p)) (λ v. both _ _ _ _ (call_rule xs h env v) (λ u. suffixes_rule rest all kept env u)))

      module _ (round : Surroundings) where
        primary_by_rule : (x : Expr) (ss : List Suffix) (o : Option NamespaceCall) → P x → AllByRecursion (SuffixParts P) ss → AllByRecursion SuffixIsKept ss → CallIsSound P o → (env : Frame)
            → Unstuck Datum (primary_by m by_slots eval call round x ss o env)
        primary_by_rule x ss None h all kept call env = operand_rule x ss h all kept env
        primary_by_rule x ss (Some (None, xs, rest)) h all kept call env = absurd call
        primary_by_rule x ss (Some (Some p, xs, rest)) h all kept call env = call_member_rule p xs rest call.0 call.1 call.2 env

        primary_rule : (x : Expr) (ss : List Suffix) → P x → AllByRecursion (SuffixParts P) ss → AllByRecursion SuffixIsKept ss → (env : Frame) → Unstuck Datum (primary m by_slots eval call round x ss env)
        unfolding primary
        primary_rule x ss h all kept env = primary_by_rule x ss (called (member_at (out-Expr x)) ss) h all kept (called_sound P (member_at (out-Expr x)) ss all kept) env

        expr_by_rule : (o : ExprLayer) → ExprParts P o → VariableParts AreNames o → IsKept o → (env : Frame) → Unstuck Datum (expr_by m by_slots eval call round o env)
        expr_by_rule (Expr-F.Expr::Name n) h names kept env = use_rule round n kept env
        expr_by_rule (Expr-F.Int n) h names kept env = literal_rule (int n)
        expr_by_rule (Expr-F.String t) h names kept env = literal_rule (string t)
        expr_by_rule (Expr-F.Expr::List xs) h names kept env = list_rule xs h env
        expr_by_rule (Expr-F.Expr::Tuple xs) h names kept env = tuple_rule xs h env
        expr_by_rule (Expr-F.Dict ps) h names kept env = dict_rule ps h env
        expr_by_rule (Expr-F.ListComprehension x cs own) h names kept env =
            comprehension_rule m L P eval evals (element m eval x) (element_rule m L P eval evals x h.0) (items []) cs h.1 names own env
        expr_by_rule (Expr-F.DictComprehension p cs own) h names kept env =
            comprehension_rule m L P eval evals (pair_element m eval p) (comprehensions.pair_rule m L P eval evals p h.0) (pairs []) cs h.1 names own env
        expr_by_rule (Expr-F.Primary x ss) h names kept env = primary_rule x ss h.0 h.1 kept env
        expr_by_rule (Expr-F.Unary os x) h names kept env = unary_rule os x h env
        expr_by_rule (Expr-F.Binary x os) h names kept env = binary_rule x os h.0 h.1 env
        expr_by_rule (Expr-F.Compare x o y) h names kept env = compare_rule x o y h.0 h.1 env
        expr_by_rule (Expr-F.Conditional cs x) h names kept env = conditional_rule cs h.0 x h.1 env
        expr_by_rule Expr-F.Lambda h names kept env = absurd kept

        expr_rule : (e : Expr) → ExprParts P (out-Expr e) → VariableParts AreNames (out-Expr e) → IsKept (out-Expr e) → (env : Frame) → Unstuck Datum (expr m by_slots eval call round e env)
        unfolding expr
        expr_rule e h names kept env = expr_by_rule (out-Expr e) h names kept env

  module _ (call : Calls S) (calls : (v : Datum) (p : Passed) → Unstuck Datum (call v p)) (round : Surroundings) where
    pub eval_rule : (n : ℕ) (e : Expr) → ExprIsSoundTo n e → (env : Frame) → Unstuck Datum (expr_to n m by_slots call round e env)
    unfolding expr_to ExprIsSoundTo
    eval_rule zero e sound env = absurd sound
    eval_rule (suc n) e sound env = expr_rule (ExprIsSoundTo n) (expr_to n m by_slots call round) (eval_rule n) call calls round e sound.0 sound.1 sound.2 env
