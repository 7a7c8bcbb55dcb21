-- The depth of a tree by its outermost layer.
use Rattle.std.proofs.Common.{◌≡◌, ◌≤◌, ℕ, ◌+◌, max, List, map, Option, Some, None, sym, ap, ◌∙◌, rules, arith}
use Rattle.bq_parse_grammar.specs.declared.tree.Argument.TheOpen.{Argument-F, Clause-F, Expr-F, Suffix-F, TargetExpr-F}
use Rattle.bq_parse_grammar.specs.declared.tree.Argument.{Argument, out-Argument, roll-Argument, roll-out-Argument}
use Rattle.bq_parse_grammar.specs.declared.tree.Branch.{Branch, out-Branch, roll-Branch, roll-out-Branch}
use Rattle.bq_parse_grammar.specs.declared.tree.Choice.{Choice, out-Choice, roll-Choice, roll-out-Choice}
use Rattle.bq_parse_grammar.specs.declared.tree.Clause.{Clause, out-Clause, roll-Clause, roll-out-Clause}
use Rattle.bq_parse_grammar.specs.declared.tree.Expr.{Expr, out-Expr, roll-Expr, roll-out-Expr, the_lemmas}
use Rattle.bq_parse_grammar.specs.declared.tree.Operation.{Operation, out-Operation, roll-Operation, roll-out-Operation}
use Rattle.bq_parse_grammar.specs.declared.tree.Operator.{Operator}
use Rattle.bq_parse_grammar.specs.declared.tree.Pair.{Pair, out-Pair, roll-Pair, roll-out-Pair}
use Rattle.bq_parse_grammar.specs.declared.tree.Stmt as stmt
use Rattle.bq_parse_grammar.specs.declared.tree.Stmt.{Stmt, out-Stmt, roll-Stmt, roll-out-Stmt}
use Rattle.bq_parse_grammar.specs.declared.tree.Stmt.TheOpen.{Stmt-F}
use Rattle.bq_parse_grammar.specs.declared.tree.Suffix.{Suffix, out-Suffix, roll-Suffix, roll-out-Suffix}
use Rattle.bq_parse_grammar.specs.declared.tree.TargetExpr.{TargetExpr, out-TargetExpr, roll-TargetExpr, roll-out-TargetExpr}
use Rattle.bq_parse_grammar.specs.Targets.{ExprLayer, SuffixLayer}
use Rattle.bq_resolve_scope.specs.Names.{TargetLayer, ClauseLayer}
use Rattle.bq_parse_laws.specs.Depth.{deepest, expr_depth, target_depth, argument_depth, clause_depth, suffix_depth, choice_depth, operation_depth, pair_depth, parameter_depth, small_depth, stmt_depth, branch_depth}

-- of an optional part
abbrev pub part_depth : Option Expr → ℕ
part_depth None = 0
part_depth (Some x) = expr_depth x

-- ---- expressions

abbrev pub argument_layer : Argument-F Argument Clause Expr Suffix TargetExpr Choice Operation Pair → ℕ
argument_layer (Argument-F.Positional x) = expr_depth x
argument_layer (Argument-F.Named n x) = expr_depth x
argument_layer (Argument-F.Star x) = expr_depth x
argument_layer (Argument-F.StarStar x) = expr_depth x

abbrev pub clause_layer : ClauseLayer → ℕ
clause_layer (Clause-F.For t x) = max (target_depth t) (expr_depth x)
clause_layer (Clause-F.If x) = expr_depth x

abbrev pub suffix_layer : SuffixLayer → ℕ
suffix_layer (Suffix-F.Call xs) = deepest (map argument_depth xs)
suffix_layer (Suffix-F.Method n xs) = deepest (map argument_depth xs)
suffix_layer (Suffix-F.Attribute n) = 0
suffix_layer (Suffix-F.Suffix::Index x) = expr_depth x
suffix_layer (Suffix-F.Slice x y z) = max (part_depth x) (max (part_depth y) (part_depth z))

abbrev pub target_layer : TargetLayer → ℕ
target_layer (TargetExpr-F.TargetExpr::Name n) = 1
target_layer (TargetExpr-F.TargetExpr::Index x i) = max (expr_depth x) (expr_depth i) + 1
target_layer (TargetExpr-F.TargetExpr::Tuple ts) = deepest (map target_depth ts) + 1
target_layer (TargetExpr-F.TargetExpr::List ts) = deepest (map target_depth ts) + 1

abbrev pub expr_layer : ExprLayer → ℕ
expr_layer (Expr-F.Expr::Name n) = 1
expr_layer (Expr-F.Int i) = 1
expr_layer (Expr-F.String s) = 1
expr_layer (Expr-F.Expr::List xs) = deepest (map expr_depth xs) + 1
expr_layer (Expr-F.Expr::Tuple xs) = deepest (map expr_depth xs) + 1
expr_layer (Expr-F.Dict ps) = deepest (map pair_depth ps) + 1
expr_layer (Expr-F.ListComprehension x cs own) = max (expr_depth x) (deepest (map clause_depth cs)) + 1
expr_layer (Expr-F.DictComprehension p cs own) = max (pair_depth p) (deepest (map clause_depth cs)) + 1
expr_layer (Expr-F.Primary x ss) = max (expr_depth x) (deepest (map suffix_depth ss)) + 1
expr_layer (Expr-F.Unary os x) = expr_depth x + 1
expr_layer (Expr-F.Binary x os) = max (expr_depth x) (deepest (map operation_depth os)) + 1
expr_layer (Expr-F.Compare x o y) = max (expr_depth x) (expr_depth y) + 1
expr_layer (Expr-F.Conditional cs x) = max (deepest (map choice_depth cs)) (expr_depth x) + 1
expr_layer Expr-F.Lambda = 1

rolled_argument : (o : Argument-F Argument Clause Expr Suffix TargetExpr Choice Operation Pair) → argument_depth (roll-Argument o) ≡ argument_layer o
rolled_argument (Argument-F.Positional x) = search (rules, the_lemmas)
rolled_argument (Argument-F.Named n x) = search (rules, the_lemmas)
rolled_argument (Argument-F.Star x) = search (rules, the_lemmas)
rolled_argument (Argument-F.StarStar x) = search (rules, the_lemmas)

pub opened_argument : (x : Argument) → argument_depth x ≡ argument_layer (out-Argument x)
opened_argument x = sym (ap argument_depth (roll-out-Argument x)) ∙ rolled_argument (out-Argument x)

rolled_clause : (o : ClauseLayer) → clause_depth (roll-Clause o) ≡ clause_layer o
rolled_clause (Clause-F.For t x) = search (rules, the_lemmas)
rolled_clause (Clause-F.If x) = search (rules, the_lemmas)

pub opened_clause : (x : Clause) → clause_depth x ≡ clause_layer (out-Clause x)
opened_clause x = sym (ap clause_depth (roll-out-Clause x)) ∙ rolled_clause (out-Clause x)

rolled_slice : (x y z : Option Expr) → suffix_depth (roll-Suffix (Suffix-F.Slice x y z)) ≡ max (part_depth x) (max (part_depth y) (part_depth z))
rolled_slice None None None = search (rules, the_lemmas)
rolled_slice None None (Some z) = search (rules, the_lemmas)
rolled_slice None (Some y) None = search (rules, the_lemmas)
rolled_slice None (Some y) (Some z) = search (rules, the_lemmas)
rolled_slice (Some x) None None = search (rules, the_lemmas)
rolled_slice (Some x) None (Some z) = search (rules, the_lemmas)
rolled_slice (Some x) (Some y) None = search (rules, the_lemmas)
rolled_slice (Some x) (Some y) (Some z) = search (rules, the_lemmas)

rolled_suffix : (o : SuffixLayer) → suffix_depth (roll-Suffix o) ≡ suffix_layer o
rolled_suffix (Suffix-F.Call xs) = search (rules, the_lemmas)
rolled_suffix (Suffix-F.Method n xs) = search (rules, the_lemmas)
rolled_suffix (Suffix-F.Attribute n) = search (rules, the_lemmas)
rolled_suffix (Suffix-F.Suffix::Index x) = search (rules, the_lemmas)
rolled_suffix (Suffix-F.Slice x y z) = rolled_slice x y z

pub opened_suffix : (x : Suffix) → suffix_depth x ≡ suffix_layer (out-Suffix x)
opened_suffix x = sym (ap suffix_depth (roll-out-Suffix x)) ∙ rolled_suffix (out-Suffix x)

rolled_target : (o : TargetLayer) → target_depth (roll-TargetExpr o) ≡ target_layer o
rolled_target (TargetExpr-F.TargetExpr::Name n) = search (rules, the_lemmas)
rolled_target (TargetExpr-F.TargetExpr::Index x i) = search (rules, the_lemmas)
rolled_target (TargetExpr-F.TargetExpr::Tuple ts) = search (rules, the_lemmas)
rolled_target (TargetExpr-F.TargetExpr::List ts) = search (rules, the_lemmas)

pub opened_target : (x : TargetExpr) → target_depth x ≡ target_layer (out-TargetExpr x)
opened_target x = sym (ap target_depth (roll-out-TargetExpr x)) ∙ rolled_target (out-TargetExpr x)

pub target_has_depth : (o : TargetLayer) → 1 ≤ target_layer o
target_has_depth (TargetExpr-F.TargetExpr::Name n) = omega arith
target_has_depth (TargetExpr-F.TargetExpr::Index x i) = omega arith
target_has_depth (TargetExpr-F.TargetExpr::Tuple ts) = omega arith
target_has_depth (TargetExpr-F.TargetExpr::List ts) = omega arith

rolled_expr : (o : ExprLayer) → expr_depth (roll-Expr o) ≡ expr_layer o
rolled_expr (Expr-F.Expr::Name n) = search (rules, the_lemmas)
rolled_expr (Expr-F.Int i) = search (rules, the_lemmas)
rolled_expr (Expr-F.String s) = search (rules, the_lemmas)
rolled_expr (Expr-F.Expr::List xs) = search (rules, the_lemmas)
rolled_expr (Expr-F.Expr::Tuple xs) = search (rules, the_lemmas)
rolled_expr (Expr-F.Dict ps) = search (rules, the_lemmas)
rolled_expr (Expr-F.ListComprehension x cs own) = search (rules, the_lemmas)
rolled_expr (Expr-F.DictComprehension p cs own) = search (rules, the_lemmas)
rolled_expr (Expr-F.Primary x ss) = search (rules, the_lemmas)
rolled_expr (Expr-F.Unary os x) = search (rules, the_lemmas)
rolled_expr (Expr-F.Binary x os) = search (rules, the_lemmas)
rolled_expr (Expr-F.Compare x o y) = search (rules, the_lemmas)
rolled_expr (Expr-F.Conditional cs x) = search (rules, the_lemmas)
rolled_expr Expr-F.Lambda = search (rules, the_lemmas)

pub opened_expr : (x : Expr) → expr_depth x ≡ expr_layer (out-Expr x)
opened_expr x = sym (ap expr_depth (roll-out-Expr x)) ∙ rolled_expr (out-Expr x)

pub expr_has_depth : (o : ExprLayer) → 1 ≤ expr_layer o
expr_has_depth (Expr-F.Expr::Name n) = omega arith
expr_has_depth (Expr-F.Int i) = omega arith
expr_has_depth (Expr-F.String s) = omega arith
expr_has_depth (Expr-F.Expr::List xs) = omega arith
expr_has_depth (Expr-F.Expr::Tuple xs) = omega arith
expr_has_depth (Expr-F.Dict ps) = omega arith
expr_has_depth (Expr-F.ListComprehension x cs own) = omega arith
expr_has_depth (Expr-F.DictComprehension p cs own) = omega arith
expr_has_depth (Expr-F.Primary x ss) = omega arith
expr_has_depth (Expr-F.Unary os x) = omega arith
expr_has_depth (Expr-F.Binary x os) = omega arith
expr_has_depth (Expr-F.Compare x o y) = omega arith
expr_has_depth (Expr-F.Conditional cs x) = omega arith
expr_has_depth Expr-F.Lambda = omega arith

rolled_pair : (x y : Expr) → pair_depth (roll-Pair (record { key = x; value = y })) ≡ max (expr_depth x) (expr_depth y)
rolled_pair x y = search (rules, the_lemmas)

pub opened_pair : (p : Pair) → pair_depth p ≡ max (expr_depth (out-Pair p).key) (expr_depth (out-Pair p).value)
opened_pair p = sym (ap pair_depth (roll-out-Pair p)) ∙ rolled_pair (out-Pair p).key (out-Pair p).value

rolled_operation : (o : Operator) (x : Expr) → operation_depth (roll-Operation (record { operator = o; operand = x })) ≡ expr_depth x
rolled_operation o x = search (rules, the_lemmas)

pub opened_operation : (o : Operation) → operation_depth o ≡ expr_depth (out-Operation o).operand
opened_operation o = sym (ap operation_depth (roll-out-Operation o)) ∙ rolled_operation (out-Operation o).operator (out-Operation o).operand

rolled_choice : (x y : Expr) → choice_depth (roll-Choice (record { value = x; condition = y })) ≡ max (expr_depth x) (expr_depth y)
rolled_choice x y = search (rules, the_lemmas)

pub opened_choice : (o : Choice) → choice_depth o ≡ max (expr_depth (out-Choice o).value) (expr_depth (out-Choice o).condition)
opened_choice o = sym (ap choice_depth (roll-out-Choice o)) ∙ rolled_choice (out-Choice o).value (out-Choice o).condition

-- ---- statements

abbrev pub stmt_layer : Stmt-F Stmt Branch → ℕ
stmt_layer (Stmt-F.Simple xs) = deepest (map small_depth xs) + 1
stmt_layer (Stmt-F.If bs zs) = max (deepest (map branch_depth bs)) (deepest (map stmt_depth zs)) + 1
stmt_layer (Stmt-F.For t x body) = max (target_depth t) (max (expr_depth x) (deepest (map stmt_depth body))) + 1
stmt_layer (Stmt-F.Def n ps body) = max (deepest (map parameter_depth ps)) (deepest (map stmt_depth body)) + 1

rolled_stmt : (o : Stmt-F Stmt Branch) → stmt_depth (roll-Stmt o) ≡ stmt_layer o
rolled_stmt (Stmt-F.Simple xs) = search (rules, stmt.the_lemmas)
rolled_stmt (Stmt-F.If bs zs) = search (rules, stmt.the_lemmas)
rolled_stmt (Stmt-F.For t x body) = search (rules, stmt.the_lemmas)
rolled_stmt (Stmt-F.Def n ps body) = search (rules, stmt.the_lemmas)

pub opened_stmt : (x : Stmt) → stmt_depth x ≡ stmt_layer (out-Stmt x)
opened_stmt x = sym (ap stmt_depth (roll-out-Stmt x)) ∙ rolled_stmt (out-Stmt x)

pub stmt_has_depth : (o : Stmt-F Stmt Branch) → 1 ≤ stmt_layer o
stmt_has_depth (Stmt-F.Simple xs) = omega arith
stmt_has_depth (Stmt-F.If bs zs) = omega arith
stmt_has_depth (Stmt-F.For t x body) = omega arith
stmt_has_depth (Stmt-F.Def n ps body) = omega arith

rolled_branch : (x : Expr) (ys : List Stmt) → branch_depth (roll-Branch (record { condition = x; block = ys })) ≡ max (expr_depth x) (deepest (map stmt_depth ys))
rolled_branch x ys = search (rules, stmt.the_lemmas)

pub opened_branch : (b : Branch) → branch_depth b ≡ max (expr_depth (out-Branch b).condition) (deepest (map stmt_depth (out-Branch b).block))
opened_branch b = sym (ap branch_depth (roll-out-Branch b)) ∙ rolled_branch (out-Branch b).condition (out-Branch b).block
