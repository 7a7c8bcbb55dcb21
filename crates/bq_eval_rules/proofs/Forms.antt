-- What an expression, an argument, a suffix or a clause of a known form means.
use Rattle.std.proofs.Common.{◌≡◌, ◌∙◌, ◌≤◌, ◌-◌, ℕ, ℤ, List, [], ◌∷◌, length, take, drop, get_or, Option, Some, sym, ap, arith}
use Rattle.std.proofs.lemmas.List.{take_all}
use Rattle.bq_parse_grammar.specs.Targets.{ExprLayer, SuffixLayer}
use Rattle.bq_parse_grammar.specs.declared.tree.Argument.TheOpen.{Argument-F, Clause-F, Expr-F, Suffix-F}
use Rattle.bq_parse_grammar.specs.declared.tree.Argument.{Argument, out-Argument}
use Rattle.bq_parse_grammar.specs.declared.tree.Argument.TheVariants as argument_form
use Rattle.bq_parse_grammar.specs.declared.tree.Choice.{Choice}
use Rattle.bq_parse_grammar.specs.declared.tree.Clause.{Clause, out-Clause}
use Rattle.bq_parse_grammar.specs.declared.tree.Clause.TheVariants as clause
use Rattle.bq_parse_grammar.specs.declared.tree.Comparison.{Comparison}
use Rattle.bq_parse_grammar.specs.declared.tree.ComprehensionFrame.{ComprehensionFrame}
use Rattle.bq_parse_grammar.specs.declared.tree.Expr.{Expr, out-Expr}
use Rattle.bq_parse_grammar.specs.declared.tree.Expr.TheVariants as e
use Rattle.bq_parse_grammar.specs.declared.tree.Identifier.{Identifier}
use Rattle.bq_parse_grammar.specs.declared.tree.Operation.{Operation}
use Rattle.bq_parse_grammar.specs.declared.tree.Pair.{Pair}
use Rattle.bq_parse_grammar.specs.declared.tree.Referent.TheVariants as referent
use Rattle.bq_parse_grammar.specs.declared.tree.Suffix.{Suffix, out-Suffix}
use Rattle.bq_parse_grammar.specs.declared.tree.Suffix.TheVariants as suffix_form
use Rattle.bq_parse_grammar.specs.declared.tree.TargetExpr.{TargetExpr}
use Rattle.bq_parse_grammar.specs.declared.tree.UnaryOperator.{UnaryOperator}
use Rattle.bq_predeclared.specs.declared.predeclared.Predeclared.{Predeclared}
use Rattle.bq_value.specs.Contents.{items, pairs}
use Rattle.bq_value.specs.Datum.{Datum, int, string}
use Rattle.bq_builtin_machine.specs.Action.{◌>>=◌}
use Rattle.bq_builtin_machine.specs.Args.{Passed}
use Rattle.bq_eval_spec.specs.Frame.{Frame, Surroundings}
use Rattle.bq_eval_spec.specs.Primitives.{Primitives}
use Rattle.bq_eval_spec.specs.Comprehensions.{comprehension, element, pair_element}
use Rattle.bq_eval_spec.specs.Expressions.{argument, argument_by, binary, call_member, call_of, compare, conditional, dict_display, expr, expr_by, index, list_display, literal, method, operation, operations, primary, primary_by as primary_form, slice, suffix, suffix_by, tuple_display, unary, use_of}
use Rattle.bq_eval_spec.specs.Slots.{by_slots, called, called_by, member_at, member_named}
use Rattle.bq_eval_spec.specs.Trees.{ArgumentLayer, Calls, Eval}

-- ---- clauses

pub for_out : (k : Clause) (t : TargetExpr) (x : Expr) → k ≡ clause.For t x → out-Clause k ≡ Clause-F.For t x
for_out k t x is = ap out-Clause is ∙ clause.outs-For t x

pub if_out : (k : Clause) (x : Expr) → k ≡ clause.If x → out-Clause k ≡ Clause-F.If x
if_out k x is = ap out-Clause is ∙ clause.outs-If x

-- ---- expressions

module _ {S : Type 0} (m : Primitives S) (eval : Eval S Frame) (call : Calls S) (round : Surroundings) (x : Expr) (env : Frame) (s : S) where
  by_layer : (l : ExprLayer) → out-Expr x ≡ l → expr m by_slots eval call round x env s ≡ expr_by m by_slots eval call round l env s
  unfolding expr
  by_layer l is = ap (λ k. expr_by m by_slots eval call round k env s) is

  pub name_by : (n : Identifier) → x ≡ e.Name n → expr m by_slots eval call round x env s ≡ use_of m by_slots round n env s
  name_by n is = by_layer (Expr-F.Expr::Name n) (ap out-Expr is ∙ e.outs-Name n)

  pub int_by : (n : ℤ) → x ≡ e.Int n → expr m by_slots eval call round x env s ≡ literal m (int n) s
  int_by n is = by_layer (Expr-F.Int n) (ap out-Expr is ∙ e.outs-Int n)

  pub string_by : (t : List ℕ) → x ≡ e.String t → expr m by_slots eval call round x env s ≡ literal m (string t) s
  string_by t is = by_layer (Expr-F.String t) (ap out-Expr is ∙ e.outs-String t)

  pub list_by : (xs : List Expr) → x ≡ e.List xs → expr m by_slots eval call round x env s ≡ list_display m eval xs env s
  list_by xs is = by_layer (Expr-F.Expr::List xs) (ap out-Expr is ∙ e.outs-List xs)

  pub tuple_by : (xs : List Expr) → x ≡ e.Tuple xs → expr m by_slots eval call round x env s ≡ tuple_display m eval xs env s
  tuple_by xs is = by_layer (Expr-F.Expr::Tuple xs) (ap out-Expr is ∙ e.outs-Tuple xs)

  pub dict_by : (ps : List Pair) → x ≡ e.Dict ps → expr m by_slots eval call round x env s ≡ dict_display m eval ps env s
  dict_by ps is = by_layer (Expr-F.Dict ps) (ap out-Expr is ∙ e.outs-Dict ps)

  pub list_comprehension_by : (y : Expr) (cs : List Clause) (own : ComprehensionFrame) → x ≡ e.ListComprehension y cs own
      → expr m by_slots eval call round x env s ≡ comprehension m by_slots eval (items []) (element m eval y) cs own env s
  list_comprehension_by y cs own is = by_layer (Expr-F.ListComprehension y cs own) (ap out-Expr is ∙ e.outs-ListComprehension y cs own)

  pub dict_comprehension_by : (p : Pair) (cs : List Clause) (own : ComprehensionFrame) → x ≡ e.DictComprehension p cs own
      → expr m by_slots eval call round x env s ≡ comprehension m by_slots eval (pairs []) (pair_element m eval p) cs own env s
  dict_comprehension_by p cs own is = by_layer (Expr-F.DictComprehension p cs own) (ap out-Expr is ∙ e.outs-DictComprehension p cs own)

  pub primary_by : (y : Expr) (ss : List Suffix) → x ≡ e.Primary y ss → expr m by_slots eval call round x env s ≡ primary m by_slots eval call round y ss env s
  primary_by y ss is = by_layer (Expr-F.Primary y ss) (ap out-Expr is ∙ e.outs-Primary y ss)

  pub unary_by : (os : List UnaryOperator) (y : Expr) → x ≡ e.Unary os y → expr m by_slots eval call round x env s ≡ unary m eval os y env s
  unary_by os y is = by_layer (Expr-F.Unary os y) (ap out-Expr is ∙ e.outs-Unary os y)

  pub binary_by : (y : Expr) (os : List Operation) → x ≡ e.Binary y os → expr m by_slots eval call round x env s ≡ binary m eval y os env s
  binary_by y os is = by_layer (Expr-F.Binary y os) (ap out-Expr is ∙ e.outs-Binary y os)

  pub compare_by : (y : Expr) (o : Comparison) (z : Expr) → x ≡ e.Compare y o z → expr m by_slots eval call round x env s ≡ compare m eval y o z env s
  compare_by y o z is = by_layer (Expr-F.Compare y o z) (ap out-Expr is ∙ e.outs-Compare y o z)

  pub conditional_by : (cs : List Choice) (y : Expr) → x ≡ e.Conditional cs y → expr m by_slots eval call round x env s ≡ conditional m eval cs y env s
  conditional_by cs y is = by_layer (Expr-F.Conditional cs y) (ap out-Expr is ∙ e.outs-Conditional cs y)

-- ---- the operations of a chain

pub first_operation : {S : Type 0} (m : Primitives S) (eval : Eval S Frame) (env : Frame) (v : Datum) (s : S) (os : List Operation) (o : Operation) → 1 ≤ length os → o ≡ get_or os 0 o
    → operations m eval os env v s ≡ (operation m eval o env v >>= λ u. operations m eval (take (length os - 1) (drop 1 os)) env u) s
unfolding operations
first_operation m eval env v s [] o some is = absurd (omega (arith, some))
first_operation m eval env v s (y ∷ ys) o some is =
    let all : take (length (y ∷ ys) - 1) ys ≡ ys = take_all (length (y ∷ ys) - 1) ys (omega arith) in
    ap (λ z. (operation m eval z env v >>= λ u. operations m eval ys env u) s) (sym is) ∙ ap (λ zs. (operation m eval o env v >>= λ u. operations m eval zs env u) s) (sym all)

-- ---- arguments and suffixes

module _ {S : Type 0} (m : Primitives S) (eval : Eval S Frame) (a : Argument) (env : Frame) (p : Passed) (s : S) where
  passed_by : (l : ArgumentLayer) → out-Argument a ≡ l → argument m eval a env p s ≡ argument_by m eval l env p s
  unfolding argument
  passed_by l is = ap (λ k. argument_by m eval k env p s) is

  pub positional_by : (x : Expr) → a ≡ argument_form.Positional x → argument m eval a env p s ≡ (eval x env >>= λ v. m.pass p v) s
  positional_by x is = passed_by (Argument-F.Positional x) (ap out-Argument is ∙ argument_form.outs-Positional x)

  pub named_by : (n : List ℕ) (x : Expr) → a ≡ argument_form.Named n x → argument m eval a env p s ≡ (eval x env >>= λ v. m.pass_named p n v) s
  named_by n x is = passed_by (Argument-F.Named n x) (ap out-Argument is ∙ argument_form.outs-Named n x)

  pub star_by : (x : Expr) → a ≡ argument_form.Star x → argument m eval a env p s ≡ (eval x env >>= λ v. m.pass_all p v) s
  star_by x is = passed_by (Argument-F.Star x) (ap out-Argument is ∙ argument_form.outs-Star x)

  pub star_star_by : (x : Expr) → a ≡ argument_form.StarStar x → argument m eval a env p s ≡ (eval x env >>= λ v. m.pass_all_named p v) s
  star_star_by x is = passed_by (Argument-F.StarStar x) (ap out-Argument is ∙ argument_form.outs-StarStar x)

module _ {S : Type 0} (m : Primitives S) (eval : Eval S Frame) (call : Calls S) (x : Suffix) (env : Frame) (v : Datum) (s : S) where
  applied_by : (l : SuffixLayer) → out-Suffix x ≡ l → suffix m eval call x env v s ≡ suffix_by m eval call l env v s
  unfolding suffix
  applied_by l is = ap (λ k. suffix_by m eval call k env v s) is

  pub call_by : (xs : List Argument) → x ≡ suffix_form.Call xs → suffix m eval call x env v s ≡ call_of m eval call xs env v s
  call_by xs is = applied_by (Suffix-F.Call xs) (ap out-Suffix is ∙ suffix_form.outs-Call xs)

  pub method_by : (n : Identifier) (xs : List Argument) → x ≡ suffix_form.Method n xs → suffix m eval call x env v s ≡ method m eval n.name xs env v s
  method_by n xs is = applied_by (Suffix-F.Method n xs) (ap out-Suffix is ∙ suffix_form.outs-Method n xs)

  pub index_by : (i : Expr) → x ≡ suffix_form.Index i → suffix m eval call x env v s ≡ index m eval i env v s
  index_by i is = applied_by (Suffix-F.Suffix::Index i) (ap out-Suffix is ∙ suffix_form.outs-Index i)

  pub slice_by : (i j k : Option Expr) → x ≡ suffix_form.Slice i j k → suffix m eval call x env v s ≡ slice m eval i j k env v s
  slice_by i j k is = applied_by (Suffix-F.Slice i j k) (ap out-Suffix is ∙ suffix_form.outs-Slice i j k)

-- ---- calls of members

-- a name that refers to the member of a namespace, and a method of it
module _ {S : Type 0} (m : Primitives S) (eval : Eval S Frame) (call : Calls S) (round : Surroundings) (x : Expr) (env : Frame) (s : S) where
  referred : (n : Identifier) (p : Predeclared) → x ≡ e.Name n → n.referent ≡ referent.Member p → member_at (out-Expr x) ≡ Some p
  referred n p is member = ap member_at (ap out-Expr is ∙ e.outs-Name n) ∙ ap member_named member

  member_called : (n : Identifier) (p : Predeclared) (k : Identifier) (xs : List Argument) (ss : List Suffix) → x ≡ e.Name n → n.referent ≡ referent.Member p
      → primary m by_slots eval call round x (suffix_form.Method k xs ∷ ss) env s ≡ call_member m eval call (Some p) xs ss env s
  unfolding primary
  member_called n p k xs ss is member =
      ap (λ o. primary_form m by_slots eval call round x (suffix_form.Method k xs ∷ ss) (called o (suffix_form.Method k xs ∷ ss)) env s) (referred n p is member)
      ∙ ap (λ l. primary_form m by_slots eval call round x (suffix_form.Method k xs ∷ ss) (called_by (Some p) l ss) env s) (suffix_form.outs-Method k xs)

  -- the first of some suffixes is a method, and the operand a namespace
  pub member_by : (n : Identifier) (p : Predeclared) (ss : List Suffix) (first : Suffix) (k : Identifier) (xs : List Argument) → x ≡ e.Name n → n.referent ≡ referent.Member p
      → 1 ≤ length ss → first ≡ get_or ss 0 first → first ≡ suffix_form.Method k xs → primary m by_slots eval call round x ss env s ≡ call_member m eval call (Some p) xs (take (length ss - 1) (drop 1 ss)) env s
  member_by n p [] first k xs is member some at form = absurd (omega (arith, some))
  member_by n p (y ∷ ys) first k xs is member some at form =
      let all : take (length (y ∷ ys) - 1) ys ≡ ys = take_all (length (y ∷ ys) - 1) ys (omega arith) in
      ap (λ z. primary m by_slots eval call round x (z ∷ ys) env s) (sym at ∙ form)
      ∙ (member_called n p k xs ys is member ∙ ap (λ zs. call_member m eval call (Some p) xs zs env s) (sym all))
