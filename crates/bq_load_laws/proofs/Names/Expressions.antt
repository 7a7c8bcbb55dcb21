-- The faults of an expression name lines, where those of its parts do.
use Rattle.std.proofs.Common.{◌≡◌, ◌≤◌, List, [], ◌∷◌, Bool, false, Option, Some, None, sym, ap, ◌∙◌, subst}
use Rattle.std.specs.List.{AllByRecursion, flat_map}
use Rattle.bq_base.specs.declared.fault.NameFault.{NameFault}
use Rattle.bq_base.specs.declared.fault.Fault.{Fault}
use Rattle.bq_source.specs.declared.token.TokenKind.TheVariants as k
use Rattle.bq_parse_grammar.specs.declared.tree.Argument.TheOpen.{Argument-F, Clause-F, Expr-F, Suffix-F, TargetExpr-F}
use Rattle.bq_parse_grammar.specs.declared.tree.Argument.{Argument, out-Argument}
use Rattle.bq_parse_grammar.specs.declared.tree.Choice.{Choice, out-Choice}
use Rattle.bq_parse_grammar.specs.declared.tree.Clause.{Clause, out-Clause}
use Rattle.bq_parse_grammar.specs.declared.tree.Comparison.{Comparison}
use Rattle.bq_parse_grammar.specs.declared.tree.Comparison.TheVariants as c
use Rattle.bq_parse_grammar.specs.declared.tree.Expr.{Expr, out-Expr}
use Rattle.bq_parse_grammar.specs.declared.tree.Expr.TheVariants as e
use Rattle.bq_parse_grammar.specs.declared.tree.Identifier.{Identifier}
use Rattle.bq_parse_grammar.specs.declared.tree.Operation.{Operation, out-Operation}
use Rattle.bq_parse_grammar.specs.declared.tree.Pair.{Pair, out-Pair}
use Rattle.bq_parse_grammar.specs.declared.tree.Suffix.{Suffix, out-Suffix}
use Rattle.bq_parse_grammar.specs.declared.tree.TargetExpr.{TargetExpr, out-TargetExpr}
use Rattle.bq_parse_grammar.specs.declared.tree.TargetExpr.TheVariants as t
use Rattle.bq_parse_grammar.specs.declared.tree.UnaryOperator.{UnaryOperator}
use Rattle.bq_parse_grammar.specs.Literals.{name_line}
use Rattle.bq_parse_laws.specs.Parts as parts
use Rattle.bq_parse_laws.specs.Parts.{Part, row, unary, comparison, ExprLayer, expr_parts_by, expr_parts, pair_parts, operation_parts, choice_parts, SuffixLayer, optional_expr, step_parts, arguments, suffix_parts_by, suffix_parts, ArgumentLayer, argument_parts_by, argument_parts, ClauseLayer, clause_parts_by, clause_parts, TargetLayer, target_parts_by, target_parts}
use Rattle.bq_parse_laws.proofs.Layers.{out-Tuple, out-target_Tuple}
use Rattle.bq_resolve_scope.specs.declared.universe.Namespace.{Namespace}
use Rattle.bq_resolve_scope.specs.Names.{comprehension_names}
use Rattle.bq_resolve_scope.specs.Scope.{FileParts}
use Rattle.bq_resolve_laws.specs.Violations.{Around, Before, of_part, in_use, in_member, in_binding, as_namespace, in_pair, in_operation, in_choice, in_argument_by, in_arguments, in_suffix_by, in_suffixes, in_operand, in_method, in_primary_by, in_primary, in_clause_by, in_clauses, in_comprehension, in_target_to, in_expr}
use Rattle.bq_load_laws.proofs.Names.Fine.{Fine, Maybe, two_fine, when_fine, unless_fine, all_fine, turn_fine, part_fine}
use Rattle.bq_load_laws.proofs.Names.Parts.{ExprFine, Inner, Sound, expr_sound, ExprLayerFine, expr_of_layer, TargetFine, TargetLayerFine, target_of_layer, PairFine, OperationFine, ChoiceFine, ArgumentFine, SuffixLayerFine, SuffixFine, ClauseFine, AllFine, row_fine, listed_fine}

module _ (file : FileParts) where
  pub use_fine : (around : Around) (n : Identifier) → 1 ≤ name_line n → Fine (in_use file around n)
  unfolding in_use
  use_fine around n h = unless_fine _ _ h

  member_fine : (space : Namespace) (n : Identifier) → 1 ≤ name_line n → Fine (in_member file space n)
  unfolding in_member
  member_fine space n h = unless_fine _ _ h

  pub binding_fine : (before : Before) (n : Identifier) → 1 ≤ name_line n → Fine (in_binding file before n)
  unfolding in_binding
  binding_fine before n h = when_fine _ _ h

  -- ---- what an expression is made of, where its parts are fine

  pub pair_fine : (p : Pair) → ExprFine file (out-Pair p).key → ExprFine file (out-Pair p).value → PairFine file p
  unfolding in_pair
  pair_fine p h g inner sound around = two_fine (inner around (out-Pair p).key) _ (sound around _ h) (sound around _ g)

  pub operation_fine : (o : Operation) → ExprFine file (out-Operation o).operand → OperationFine file o
  unfolding in_operation
  operation_fine o h inner sound around = sound around _ h

  pub choice_fine : (o : Choice) → ExprFine file (out-Choice o).value → ExprFine file (out-Choice o).condition → ChoiceFine file o
  unfolding in_choice
  choice_fine o h g inner sound around = two_fine (inner around (out-Choice o).value) _ (sound around _ h) (sound around _ g)

  module _ (inner : Inner file) (sound : Sound file inner) where
    arguments_fine : (around : Around) (xs : List Argument) → AllByRecursion (ArgumentFine file) xs → Fine (in_arguments file inner around xs)
    unfolding in_arguments
    arguments_fine around xs h = all_fine (ArgumentFine file) (λ x. in_argument_by file inner around (out-Argument x)) (λ x g. g inner sound around) xs h

    suffixes_fine : (around : Around) (ss : List Suffix) → AllByRecursion (SuffixFine file) ss → Fine (in_suffixes file inner around ss)
    unfolding in_suffixes
    suffixes_fine around ss h = all_fine (SuffixFine file) (λ s. in_suffix_by file inner around (out-Suffix s)) (λ s g. g.0 inner sound around) ss h

    operand_fine : (around : Around) (x : Expr) (ss : List Suffix) → ExprFine file x → AllByRecursion (SuffixFine file) ss → Fine (in_operand file inner around x ss)
    unfolding in_operand
    operand_fine around x ss h g = two_fine (inner around x) _ (sound around x h) (suffixes_fine around ss g)

    method_fine : (around : Around) (space : Namespace) (x : Expr) (ss rest : List Suffix) (l : SuffixLayer) → ExprFine file x → AllByRecursion (SuffixFine file) ss → AllByRecursion (SuffixFine file) rest
        → SuffixLayerFine file l → Fine (in_method file inner around space x ss rest l)
    method_fine around space x ss rest (Suffix-F.Method m xs) h g i j =
        two_fine (in_member file space m) _ (member_fine space m j.1) (two_fine (in_arguments file inner around xs) _ (j.0 inner sound around) (suffixes_fine around rest i))
    method_fine around space x ss rest (Suffix-F.Call xs) h g i j = operand_fine around x ss h g
    method_fine around space x ss rest (Suffix-F.Attribute n) h g i j = operand_fine around x ss h g
    method_fine around space x ss rest (Suffix-F.Suffix::Index y) h g i j = operand_fine around x ss h g
    method_fine around space x ss rest (Suffix-F.Slice y z w) h g i j = operand_fine around x ss h g

    primary_by_fine : (around : Around) (x : Expr) (o : Option Namespace) (ss : List Suffix) → ExprFine file x → AllByRecursion (SuffixFine file) ss → Fine (in_primary_by file inner around x o ss)
    primary_by_fine around x (Some space) (s ∷ ss) h g = method_fine around space x (s ∷ ss) ss (out-Suffix s) h g g.1 g.0
    primary_by_fine around x (Some space) [] h g = operand_fine around x [] h g
    primary_by_fine around x None ss h g = operand_fine around x ss h g

    primary_fine : (around : Around) (x : Expr) (ss : List Suffix) → ExprFine file x → AllByRecursion (SuffixFine file) ss → Fine (in_primary file inner around x ss)
    unfolding in_primary
    primary_fine around x ss h g = primary_by_fine around x (as_namespace file around (out-Expr x)) ss h g

    clauses_fine : (outer around : Around) (cs : List Clause) → AllByRecursion (ClauseFine file) cs → Fine (in_clauses file inner outer around cs)
    unfolding in_clauses
    clauses_fine outer around [] h = tt
    clauses_fine outer around (x ∷ xs) h =
        two_fine (in_clause_by file inner outer around (out-Clause x)) _ (h.0 inner sound outer around)
        (all_fine (ClauseFine file) (λ d. in_clause_by file inner around around (out-Clause d)) (λ d g. g inner sound around around) xs h.1)

    comprehension_fine : (element : Around → List (Fault NameFault)) → ((own : Around) → Fine (element own)) → (around : Around) (cs : List Clause) → AllByRecursion (ClauseFine file) cs
        → Fine (in_comprehension file inner element around cs)
    unfolding in_comprehension
    comprehension_fine element each around cs h = two_fine (element (comprehension_names cs ∷ around)) _ (each _) (clauses_fine around (comprehension_names cs ∷ around) cs h)

    exprs_fine : (around : Around) (xs : List Expr) → AllByRecursion (ExprFine file) xs → Fine (flat_map (inner around) xs)
    exprs_fine around xs h = all_fine (ExprFine file) (inner around) (sound around) xs h

  -- ---- operators

  unary_rest : (os : List UnaryOperator) (more : List Part) → AllFine file (row unary os more) → AllFine file more
  unary_rest [] more h = h
  unary_rest (o ∷ os) more h = unary_rest os more h.1

  comparison_rest : (o : Comparison) (more : List Part) → AllFine file (comparison o more) → AllFine file more
  comparison_rest c.Equal more h = h.1
  comparison_rest c.NotEqual more h = h.1
  comparison_rest c.Less more h = h.1
  comparison_rest c.Greater more h = h.1
  comparison_rest c.LessEqual more h = h.1
  comparison_rest c.GreaterEqual more h = h.1
  comparison_rest c.In more h = h.1
  comparison_rest c.NotIn more h = h.1.1

  -- ---- expressions

  expr_by : (l : ExprLayer) (ps : List Part) → AllFine file (expr_parts_by l ps) → ExprLayerFine file l × AllFine file ps
  expr_by (Expr-F.Expr::Name n) ps h = (λ inner sound around. use_fine around n h.0, h.1)
  expr_by (Expr-F.Int n) ps h = (λ inner sound around. tt, h.1)
  expr_by (Expr-F.String s) ps h = (λ inner sound around. tt, h.1)
  expr_by (Expr-F.Expr::List xs) ps h =
      let i = listed_fine file parts.expr (ExprFine file) (λ x g. g) k.Comma xs (parts.token k.RightBracket ∷ ps) h.1 in
      (λ inner sound around. exprs_fine inner sound around xs i.0, i.1.1)
  expr_by (Expr-F.Expr::Tuple []) ps h = (λ inner sound around. tt, h.1.1)
  expr_by (Expr-F.Expr::Tuple (x ∷ xs)) ps h =
      let i = listed_fine file parts.expr (ExprFine file) (λ x g. g) k.Comma xs (parts.token k.RightParen ∷ ps) h.1.1.1 in
      (λ inner sound around. exprs_fine inner sound around (x ∷ xs) (h.1.0, i.0), i.1.1)
  expr_by (Expr-F.Dict xs) ps h =
      let i = listed_fine file parts.pair (PairFine file) (λ x g. g) k.Comma xs (parts.token k.RightBrace ∷ ps) h.1 in
      (λ inner sound around. all_fine (PairFine file) (in_pair file inner around) (λ p g. g inner sound around) xs i.0, i.1.1)
  expr_by (Expr-F.ListComprehension x cs own) ps h =
      let i = row_fine file parts.clause (ClauseFine file) (λ x g. g) cs (parts.token k.RightBracket ∷ ps) h.1.1 in
      (λ inner sound around. comprehension_fine inner sound (λ own. inner own x) (λ own. sound own x h.1.0) around cs i.0, i.1.1)
  expr_by (Expr-F.DictComprehension x cs own) ps h =
      let i = row_fine file parts.clause (ClauseFine file) (λ x g. g) cs (parts.token k.RightBrace ∷ ps) h.1.1 in
      (λ inner sound around. comprehension_fine inner sound (λ own. in_pair file inner own x) (λ own. h.1.0 inner sound own) around cs i.0, i.1.1)
  expr_by (Expr-F.Primary x []) ps h = (λ inner sound around. primary_fine inner sound around x [] h.1.0 tt, h.1.1.1)
  expr_by (Expr-F.Primary x (y ∷ ys)) ps h =
      let i = row_fine file parts.suffix (SuffixFine file) (λ x g. g) (y ∷ ys) ps h.1 in
      (λ inner sound around. primary_fine inner sound around x (y ∷ ys) h.0 i.0, i.1)
  expr_by (Expr-F.Unary os x) ps h = let i = unary_rest os (parts.expr x ∷ ps) h in (λ inner sound around. sound around x i.0, i.1)
  expr_by (Expr-F.Binary x os) ps h =
      let i = row_fine file parts.operation (OperationFine file) (λ x g. g) os ps h.1 in
      (λ inner sound around. two_fine (inner around x) _ (sound around x h.0) (all_fine (OperationFine file) (in_operation file inner around) (λ o g. g inner sound around) os i.0), i.1)
  expr_by (Expr-F.Compare x o y) ps h =
      let i = comparison_rest o (parts.expr y ∷ ps) h.1 in
      (λ inner sound around. two_fine (inner around x) _ (sound around x h.0) (sound around y i.0), i.1)
  expr_by (Expr-F.Conditional cs x) ps h =
      let i = row_fine file parts.choice (ChoiceFine file) (λ x g. g) cs (parts.expr x ∷ ps) h in
      (λ inner sound around. two_fine (flat_map (in_choice file inner around) cs) _ (all_fine (ChoiceFine file) (in_choice file inner around) (λ o g. g inner sound around) cs i.0) (sound around x i.1.0), i.1.1)
  expr_by Expr-F.Lambda ps h = absurd (h.0)

  pub expr_told : (x : Expr) (ps : List Part) → AllFine file (expr_parts x ps) → AllFine file (parts.expr x ∷ ps)
  expr_told x ps h = let i = expr_by (out-Expr x) ps h in (expr_of_layer file x i.0, i.1)

  -- a tuple without parentheses
  pub tuple_fine : (z : Expr) (xs : List Expr) → z ≡ e.Tuple xs → AllByRecursion (ExprFine file) xs → ExprFine file z
  tuple_fine z xs is h = expr_of_layer file z (subst (ExprLayerFine file) (sym (ap out-Expr is ∙ out-Tuple xs)) (λ inner sound around. exprs_fine inner sound around xs h))

  pub pair_told : (x : Pair) (ps : List Part) → AllFine file (pair_parts x ps) → AllFine file (parts.pair x ∷ ps)
  pair_told x ps h = (pair_fine x h.0 h.1.1.0, h.1.1.1)

  pub operation_told : (x : Operation) (ps : List Part) → AllFine file (operation_parts x ps) → AllFine file (parts.operation x ∷ ps)
  operation_told x ps h = (operation_fine x h.1.0, h.1.1)

  pub choice_told : (x : Choice) (ps : List Part) → AllFine file (choice_parts x ps) → AllFine file (parts.choice x ∷ ps)
  choice_told x ps h = (choice_fine x h.0 h.1.1.0, h.1.1.1.1)

  -- ---- suffixes

  optional_told : (o : Option Expr) (ps : List Part) → AllFine file (optional_expr o ps) → Maybe (ExprFine file) o × AllFine file ps
  optional_told None ps h = (tt, h)
  optional_told (Some x) ps h = h

  step_told : (o : Option Expr) (ps : List Part) → AllFine file (step_parts o ps) → Maybe (ExprFine file) o × AllFine file ps
  step_told None ps h = (tt, h.1)
  step_told (Some x) ps h = h.1

  arguments_told : (xs : List Argument) (ps : List Part) → AllFine file (arguments xs ps) → AllByRecursion (ArgumentFine file) xs × AllFine file ps
  arguments_told [] ps h = (tt, h.1.1)
  arguments_told (x ∷ xs) ps h =
      let i = row_fine file (parts.argument false) (ArgumentFine file) (λ x g. g) xs (parts.maybe k.Comma ∷ parts.token k.RightParen ∷ ps) h.1 in
      ((h.0, i.0), i.1.1.1)

  suffix_by : (l : SuffixLayer) (ps : List Part) → AllFine file (suffix_parts_by l ps) → SuffixLayerFine file l × AllFine file ps
  suffix_by (Suffix-F.Call xs) ps h = let i = arguments_told xs ps h in ((λ inner sound around. arguments_fine inner sound around xs i.0, tt), i.1)
  suffix_by (Suffix-F.Method n xs) ps h = let i = arguments_told xs ps h.1 in ((λ inner sound around. arguments_fine inner sound around xs i.0, h.0), i.1)
  suffix_by (Suffix-F.Attribute n) ps h = ((λ inner sound around. tt, tt), h.1)
  suffix_by (Suffix-F.Suffix::Index x) ps h = ((λ inner sound around. sound around x h.1.0, tt), h.1.1.1)
  suffix_by (Suffix-F.Slice x y z) ps h =
      let i = optional_told x (parts.token k.Colon ∷ optional_expr y (step_parts z (parts.token k.RightBracket ∷ ps))) h.1 in
      let j = optional_told y (step_parts z (parts.token k.RightBracket ∷ ps)) i.1.1 in
      let m = step_told z (parts.token k.RightBracket ∷ ps) j.1 in (
        (
          λ inner sound around.
              two_fine (of_part (inner around) x) _ (part_fine (ExprFine file) (inner around) (sound around) x i.0)
              (two_fine (of_part (inner around) y) _ (part_fine (ExprFine file) (inner around) (sound around) y j.0) (part_fine (ExprFine file) (inner around) (sound around) z m.0)),
          tt,
        ),
        m.1.1,
      )

  pub suffix_told : (x : Suffix) (ps : List Part) → AllFine file (suffix_parts x ps) → AllFine file (parts.suffix x ∷ ps)
  suffix_told x ps h = suffix_by (out-Suffix x) ps h

  -- ---- arguments, clauses

  argument_by : (first : Bool) (l : ArgumentLayer) (ps : List Part) → AllFine file (argument_parts_by first l ps)
      → ((inner : Inner file) → Sound file inner → (around : Around) → Fine (in_argument_by file inner around l)) × AllFine file ps
  argument_by first (Argument-F.Positional x) ps h = (λ inner sound around. sound around x h.1.0, h.1.1)
  argument_by first (Argument-F.Named s x) ps h = (λ inner sound around. sound around x h.1.1.1.0, h.1.1.1.1)
  argument_by first (Argument-F.Star x) ps h = (λ inner sound around. sound around x h.1.0, h.1.1)
  argument_by first (Argument-F.StarStar x) ps h = (λ inner sound around. sound around x h.1.0, h.1.1)

  pub argument_told : (first : Bool) (x : Argument) (ps : List Part) → AllFine file (argument_parts first x ps) → AllFine file (parts.argument first x ∷ ps)
  argument_told first x ps h = argument_by first (out-Argument x) ps h

  clause_by : (l : ClauseLayer) (ps : List Part) → AllFine file (clause_parts_by l ps)
      → ((inner : Inner file) → Sound file inner → (outer around : Around) → Fine (in_clause_by file inner outer around l)) × AllFine file ps
  clause_by (Clause-F.For v x) ps h = (λ inner sound outer around. two_fine (in_target_to file inner _ around v) _ (h.1.0.0 inner sound _ around) (sound outer x h.1.1.1.0), h.1.1.1.1)
  clause_by (Clause-F.If x) ps h = (λ inner sound outer around. sound around x h.1.0, h.1.1)

  pub clause_told : (x : Clause) (ps : List Part) → AllFine file (clause_parts x ps) → AllFine file (parts.clause x ∷ ps)
  clause_told x ps h = clause_by (out-Clause x) ps h

  -- ---- targets

  targets_layer : (xs : List TargetExpr) → AllByRecursion (TargetFine file) xs → TargetLayerFine file (TargetExpr-F.TargetExpr::Tuple xs)
  targets_layer xs h = (
    λ inner sound one each around. all_fine (TargetFine file) one each xs h,
    λ one each add before. turn_fine (TargetFine file) one (λ b t. record b { bound = add b.bound t }) each before xs h,
  )

  target_by : (l : TargetLayer) (ps : List Part) → AllFine file (target_parts_by l ps) → TargetLayerFine file l × AllFine file ps
  target_by (TargetExpr-F.TargetExpr::Name n) ps h = ((λ inner sound one each around. tt, λ one each add before. binding_fine before n h.0), h.1)
  target_by (TargetExpr-F.TargetExpr::Index x i) ps h = (
    (
      λ inner sound one each around. two_fine (inner around x) _ (sound around x h.0) (sound around i h.1.1.0),
      λ one each add before. two_fine (in_expr file [] x) _ (expr_sound file [] x h.0) (expr_sound file [] i h.1.1.0),
    ),
    h.1.1.1.1,
  )
  target_by (TargetExpr-F.TargetExpr::Tuple []) ps h = (targets_layer [] tt, h.1.1)
  target_by (TargetExpr-F.TargetExpr::Tuple (x ∷ xs)) ps h =
      let i = listed_fine file parts.target (TargetFine file) (λ x g. g) k.Comma xs (parts.token k.RightParen ∷ ps) h.1.1.1 in
      (targets_layer (x ∷ xs) (h.1.0, i.0), i.1.1)
  target_by (TargetExpr-F.TargetExpr::List xs) ps h =
      let i = listed_fine file parts.target (TargetFine file) (λ x g. g) k.Comma xs (parts.token k.RightBracket ∷ ps) h.1 in
      let l = targets_layer xs i.0 in
      ((l.0, l.1), i.1.1)

  pub target_told : (x : TargetExpr) (ps : List Part) → AllFine file (target_parts x ps) → AllFine file (parts.target x ∷ ps)
  target_told x ps h = let i = target_by (out-TargetExpr x) ps h in (target_of_layer file x i.0, i.1)

  pub targets_fine : (z : TargetExpr) (xs : List TargetExpr) → z ≡ t.Tuple xs → AllByRecursion (TargetFine file) xs → TargetFine file z
  targets_fine z xs is h = target_of_layer file z (subst (TargetLayerFine file) (sym (ap out-TargetExpr is ∙ out-target_Tuple xs)) (targets_layer xs h))
