-- What an expression means (Starlark specification, "Expressions"): each node takes its steps first, and its operands are evaluated
-- from left to right. All operators of a chain take their steps before its first operand is evaluated.
use Rattle.std.specs.Prelude.{ℕ, zero, suc, List, [], ◌∷◌, ◌++◌, length, reverse, Option, Some, None, if◌then◌else◌}
use Rattle.bq_parse_grammar.specs.declared.tree.Argument.TheOpen.{Expr-F, Suffix-F, Argument-F}
use Rattle.bq_parse_grammar.specs.declared.tree.Argument.{Argument, out-Argument}
use Rattle.bq_parse_grammar.specs.declared.tree.Choice.{Choice, out-Choice}
use Rattle.bq_parse_grammar.specs.declared.tree.Comparison.{Comparison}
use Rattle.bq_parse_grammar.specs.declared.tree.Expr.{Expr, out-Expr}
use Rattle.bq_parse_grammar.specs.declared.tree.Identifier.{Identifier}
use Rattle.bq_parse_grammar.specs.declared.tree.Operation.{Operation, out-Operation}
use Rattle.bq_parse_grammar.specs.declared.tree.Operator.{Operator}
use Rattle.bq_parse_grammar.specs.declared.tree.Operator.TheVariants as operator
use Rattle.bq_parse_grammar.specs.declared.tree.Pair.{Pair, out-Pair}
use Rattle.bq_parse_grammar.specs.declared.tree.Suffix.{Suffix, out-Suffix}
use Rattle.bq_parse_grammar.specs.declared.tree.UnaryOperator.{UnaryOperator}
use Rattle.bq_parse_grammar.specs.Targets.{ExprLayer, SuffixLayer}
use Rattle.bq_predeclared.specs.declared.predeclared.Predeclared.{Predeclared}
use Rattle.bq_resolve_scope.specs.Names.{Name, max_layers}
use Rattle.bq_value.specs.Contents.{Contents, items, pairs}
use Rattle.bq_value.specs.Datum.{Datum, none, int, string, tuple, data_of}
use Rattle.bq_builtin_machine.specs.Action.{Action, ◌>>=◌, pure}
use Rattle.bq_builtin_machine.specs.Args.{Passed, nothing_passed}
use Rattle.bq_eval_spec.specs.Primitives.{Primitives, stuck}
use Rattle.bq_eval_spec.specs.Comprehensions.{element, pair_element, comprehension}
use Rattle.bq_eval_spec.specs.Environment.{NameValue, variable, predeclared, NamespaceCall, Scoping}
use Rattle.bq_eval_spec.specs.Targets.{bound}
use Rattle.bq_eval_spec.specs.Trees.{Eval, Calls, ArgumentLayer}

module _ {S : Type 0} (m : Primitives S) where
  -- ---- names

  -- a name that is not bound yet is F49: its block's, whatever else has the name. In a file that is resolved each name is known
  abbrev pub value_by : Option NameValue → Action S Datum
  value_by None = stuck m
  value_by (Some (variable v)) = bound m v
  value_by (Some (predeclared p)) = pure (m.predeclared p)

  -- what a namespace has by this name; in a file that is resolved it has one
  abbrev pub member_by : Option Predeclared → Action S Datum
  member_by None = stuck m
  member_by (Some p) = pure (m.predeclared p)

  -- the use of a name takes a step; a variable without a value yet is a fault
  unfoldable pub use_of : {R V : Type 0} → Scoping R V → R → Identifier → V → Action S Datum
  use_of scoping round n env = m.step 1 >>= λ _. value_by (scoping.value round env n)

  -- an int or a string
  unfoldable pub literal : Datum → Action S Datum
  literal v = m.step 1 >>= λ _. pure v

  -- ---- operators before an operand

  -- unary operators, from the innermost
  unfoldable pub unary_each : List UnaryOperator → Datum → Action S Datum
  unary_each [] v = pure v
  unary_each (o ∷ os) v = m.unary o v >>= λ u. unary_each os u

-- Each rule takes what expressions inside mean, and the last ones what calls mean.
module _ {S V : Type 0} (m : Primitives S) (eval : Eval S V) where
  -- ---- displays

  -- the values so far, and those of all of these
  unfoldable pub values : List Expr → V → List Datum → Action S (List Datum)
  values [] env vs = pure vs
  values (x ∷ xs) env vs = eval x env >>= λ v. values xs env (vs ++ v ∷ [])

  -- `[x, ..]`: a step, then its elements from the left
  unfoldable pub list_display : List Expr → V → Action S Datum
  list_display xs env = m.step 1 >>= λ _. values xs env [] >>= λ vs. m.make (items vs)

  -- `(x, ..)`
  unfoldable pub tuple_display : List Expr → V → Action S Datum
  tuple_display xs env = m.step 1 >>= λ _. values xs env [] >>= λ vs. pure (tuple (data_of vs))

  -- `key: value` of a display: the key, then its value; a key that is there is F46
  unfoldable pub pair : Pair → V → Contents → Action S Contents
  pair p env c = eval (out-Pair p).key env >>= λ k. eval (out-Pair p).value env >>= λ v. m.add_pair c k v

  -- the pairs of a dict, in turn
  unfoldable pub pairs_each : List Pair → V → Contents → Action S Contents
  pairs_each [] env c = pure c
  pairs_each (p ∷ ps) env c = pair p env c >>= λ d. pairs_each ps env d

  -- `{key: value, ..}`
  unfoldable pub dict_display : List Pair → V → Action S Datum
  dict_display ps env = m.step 1 >>= λ _. pairs_each ps env (pairs []) >>= λ c. m.make c

  -- ---- operators

  -- the operator next to the operand comes first
  unfoldable pub unary : List UnaryOperator → Expr → V → Action S Datum
  unary os x env = m.step (length os) >>= λ _. eval x env >>= λ v. unary_each m (reverse os) v

  -- `and` and `or` evaluate their right operand only where the left one doesn't decide
  abbrev pub operation_by : Operator → Expr → V → Datum → Action S Datum
  operation_by operator.And x env v = λ s. (if m.truth v s then eval x env else pure v) s
  operation_by operator.Or x env v = λ s. (if m.truth v s then pure v else eval x env) s
  operation_by op x env v = eval x env >>= λ u. m.binary op v u

  -- an operator with its operand on the right
  unfoldable pub operation : Operation → V → Datum → Action S Datum
  operation o env v = operation_by (out-Operation o).operator (out-Operation o).operand env v

  -- the operations of a chain, from the left
  unfoldable pub operations : List Operation → V → Datum → Action S Datum
  operations [] env v = pure v
  operations (o ∷ os) env v = operation o env v >>= λ u. operations os env u

  -- a chain takes a step for each of its operators, before its first operand
  unfoldable pub binary : Expr → List Operation → V → Action S Datum
  binary x os env = m.step (length os) >>= λ _. eval x env >>= λ v. operations os env v

  -- a comparison: a step, the left side, the right side
  unfoldable pub compare : Expr → Comparison → Expr → V → Action S Datum
  compare x o y env = m.step 1 >>= λ _. eval x env >>= λ v. eval y env >>= λ w. m.compare o v w

  -- ---- `x if y else ..`

  -- the value of a choice, if its condition holds: the condition is evaluated first
  unfoldable pub choice : Choice → V → Action S (Option Datum)
  choice c env =
      m.step 1 >>= λ _. eval (out-Choice c).condition env
      >>= λ t. λ s. (if m.truth t s then (eval (out-Choice c).value env >>= λ v. pure (Some v)) else pure None) s

  -- the value that a condition chose, or what is otherwise
  abbrev pub chosen : Action S Datum → Option Datum → Action S Datum
  chosen otherwise None = otherwise
  chosen otherwise (Some v) = pure v

  -- `x if c else y`: the first value whose condition holds
  unfoldable pub conditional : List Choice → Expr → V → Action S Datum
  conditional [] x env = eval x env
  conditional (c ∷ cs) x env = choice c env >>= λ o. chosen (conditional cs x env) o

  -- ---- what is done to an operand

  -- `v[i]`
  unfoldable pub index : Expr → V → Datum → Action S Datum
  index i env v = eval i env >>= λ w. m.index v w

  -- a part of a slice that is left out is `None`
  unfoldable pub part : Option Expr → V → Action S Datum
  part None env = pure none
  part (Some x) env = eval x env

  -- `v[i:j:k]`: its three parts in turn, then the slice
  unfoldable pub slice : Option Expr → Option Expr → Option Expr → V → Datum → Action S Datum
  slice i j k env v = part i env >>= λ x. part j env >>= λ y. part k env >>= λ z. m.slice v x y z

  -- an argument joins those that are passed, by its form
  abbrev pub argument_by : ArgumentLayer → V → Passed → Action S Passed
  argument_by (Argument-F.Positional x) env p = eval x env >>= λ v. m.pass p v
  argument_by (Argument-F.Named name x) env p = eval x env >>= λ v. m.pass_named p name v
  argument_by (Argument-F.Star x) env p = eval x env >>= λ v. m.pass_all p v
  argument_by (Argument-F.StarStar x) env p = eval x env >>= λ v. m.pass_all_named p v

  -- an argument joins those that are passed
  unfoldable pub argument : Argument → V → Passed → Action S Passed
  argument a env p = argument_by (out-Argument a) env p

  -- the arguments so far, and all of these
  unfoldable pub arguments : List Argument → V → Passed → Action S Passed
  arguments [] env p = pure p
  arguments (a ∷ xs) env p = argument a env p >>= λ q. arguments xs env q

  -- `v.name(..)`
  unfoldable pub method : Name → List Argument → V → Datum → Action S Datum
  method name xs env v = arguments xs env nothing_passed >>= λ p. m.call_method name v p

  module _ (call : Calls S) where
    -- `v(..)`
    unfoldable pub call_of : List Argument → V → Datum → Action S Datum
    call_of xs env v = arguments xs env nothing_passed >>= λ p. call v p

    -- what follows an operand, by its form; the grammar leaves out `.name` without a call
    abbrev pub suffix_by : SuffixLayer → V → Datum → Action S Datum
    suffix_by (Suffix-F.Call xs) env v = call_of xs env v
    suffix_by (Suffix-F.Method n xs) env v = method n.name xs env v
    suffix_by (Suffix-F.Attribute n) env v = stuck m
    suffix_by (Suffix-F.Suffix::Index i) env v = index i env v
    suffix_by (Suffix-F.Slice i j k) env v = slice i j k env v

    -- what stands behind an operand
    unfoldable pub suffix : Suffix → V → Datum → Action S Datum
    suffix x env v = suffix_by (out-Suffix x) env v

    -- all that stands behind an operand, in turn
    unfoldable pub suffixes : List Suffix → V → Datum → Action S Datum
    suffixes [] env v = pure v
    suffixes (x ∷ xs) env v = suffix x env v >>= λ u. suffixes xs env u

    -- an operand takes a step for each suffix, before it is evaluated
    unfoldable pub operand : Expr → List Suffix → V → Action S Datum
    operand x ss env = m.step (length ss) >>= λ _. eval x env >>= λ v. suffixes ss env v

    -- `native.name(arguments)` or `attr.name(arguments)`, and what is done to its result
    unfoldable pub call_member : Option Predeclared → List Argument → List Suffix → V → Action S Datum
    call_member found xs rest env = m.step (suc (length rest)) >>= λ _. member_by m found >>= λ v. call_of xs env v >>= λ u. suffixes rest env u

-- ---- expressions, where names mean what `scoping` says, with `round` around them

module _ {S R V : Type 0} (m : Primitives S) (scoping : Scoping R V) (eval : Eval S V) (call : Calls S) (round : R) where
  -- an operand with suffixes, or the call of a namespace's member
  abbrev pub primary_by : Expr → List Suffix → Option NamespaceCall → V → Action S Datum
  primary_by x ss None env = operand m eval call x ss env
  primary_by x ss (Some (found, xs, rest)) env = call_member m eval call found xs rest env

  -- an operand with suffixes; a call of a namespace's member, as `native.glob(..)`, is one
  unfoldable pub primary : Expr → List Suffix → V → Action S Datum
  primary x ss env = primary_by x ss (scoping.member round env x ss) env

  -- an expression, by its form
  abbrev pub expr_by : ExprLayer → V → Action S Datum
  expr_by (Expr-F.Expr::Name n) env = use_of m scoping round n env
  expr_by (Expr-F.Int n) env = literal m (int n)
  expr_by (Expr-F.String t) env = literal m (string t)
  expr_by (Expr-F.Expr::List xs) env = list_display m eval xs env
  expr_by (Expr-F.Expr::Tuple xs) env = tuple_display m eval xs env
  expr_by (Expr-F.Dict ps) env = dict_display m eval ps env
  expr_by (Expr-F.ListComprehension x cs own) env = comprehension m scoping eval (items []) (element m eval x) cs own env
  expr_by (Expr-F.DictComprehension p cs own) env = comprehension m scoping eval (pairs []) (pair_element m eval p) cs own env
  expr_by (Expr-F.Primary x ss) env = primary x ss env
  expr_by (Expr-F.Unary os x) env = unary m eval os x env
  expr_by (Expr-F.Binary x os) env = binary m eval x os env
  expr_by (Expr-F.Compare x o y) env = compare m eval x o y env
  expr_by (Expr-F.Conditional cs x) env = conditional m eval cs x env
  -- the grammar leaves out `lambda`
  expr_by Expr-F.Lambda env = stuck m

  -- an expression, where `eval` is what those in it mean
  unfoldable pub expr : Expr → V → Action S Datum
  expr e env = expr_by (out-Expr e) env

-- of expressions that are at most this many layers deep; no tree that is parsed has a deeper one
unfoldable pub expr_to : {S R V : Type 0} → ℕ → Primitives S → Scoping R V → Calls S → R → Eval S V
expr_to zero m scoping call round e env = stuck m
expr_to (suc depth) m scoping call round e env = expr m scoping (expr_to depth m scoping call round) call round e env

-- what an expression means, where names mean what `scoping` says and calls `call`, with this around it
abbrev pub eval_in : {S R V : Type 0} → Primitives S → Scoping R V → Calls S → R → Eval S V
eval_in m scoping call round = expr_to max_layers m scoping call round
