-- The depth of a made node.
use Rattle.std.proofs.Common.{◌≡◌, ℕ, ◌+◌, max, ℤ, List, map, Option, Some, None, rules}
use Rattle.bq_parse_grammar.specs.declared.tree.Identifier.{Identifier}
use Rattle.bq_parse_grammar.specs.declared.tree.Operator.{Operator}
use Rattle.bq_parse_grammar.specs.declared.tree.UnaryOperator.{UnaryOperator}
use Rattle.bq_parse_grammar.specs.declared.tree.Comparison.{Comparison}
use Rattle.bq_parse_grammar.specs.declared.tree.Argument.{Argument}
use Rattle.bq_parse_grammar.specs.declared.tree.Argument.TheVariants as a
use Rattle.bq_parse_grammar.specs.declared.tree.Choice.{Choice, roll-Choice}
use Rattle.bq_parse_grammar.specs.declared.tree.ComprehensionFrame.{ComprehensionFrame}
use Rattle.bq_parse_grammar.specs.declared.tree.Clause.{Clause}
use Rattle.bq_parse_grammar.specs.declared.tree.Clause.TheVariants as cl
use Rattle.bq_parse_grammar.specs.declared.tree.Expr.{Expr, the_lemmas}
use Rattle.bq_parse_grammar.specs.declared.tree.Expr.TheVariants as e
use Rattle.bq_parse_grammar.specs.declared.tree.Operation.{Operation, roll-Operation}
use Rattle.bq_parse_grammar.specs.declared.tree.Pair.{Pair, roll-Pair}
use Rattle.bq_parse_grammar.specs.declared.tree.Suffix.{Suffix}
use Rattle.bq_parse_grammar.specs.declared.tree.Suffix.TheVariants as s
use Rattle.bq_parse_grammar.specs.declared.tree.TargetExpr.{TargetExpr}
use Rattle.bq_parse_grammar.specs.declared.tree.TargetExpr.TheVariants as t
use Rattle.bq_parse_grammar.specs.declared.tree.Branch.{Branch, roll-Branch}
use Rattle.bq_parse_grammar.specs.declared.tree.Parameter.{Parameter}
use Rattle.bq_parse_grammar.specs.declared.tree.SmallStmt.{SmallStmt}
use Rattle.bq_parse_grammar.specs.declared.tree.Stmt as stmt
use Rattle.bq_parse_grammar.specs.declared.tree.Stmt.{Stmt}
use Rattle.bq_parse_grammar.specs.declared.tree.Stmt.TheVariants as st
use Rattle.bq_parse_laws.specs.Depth.{deepest, expr_depth, target_depth, argument_depth, clause_depth, suffix_depth, choice_depth, operation_depth, pair_depth, parameter_depth, small_depth, stmt_depth, branch_depth}

pub depth-Name : (n : Identifier) → expr_depth (e.Name n) ≡ 1
depth-Name n = search (rules, the_lemmas)

pub depth-Int : (n : ℤ) → expr_depth (e.Int n) ≡ 1
depth-Int n = search (rules, the_lemmas)

pub depth-String : (b : List ℕ) → expr_depth (e.String b) ≡ 1
depth-String b = search (rules, the_lemmas)

pub depth-List : (xs : List Expr) → expr_depth (e.List xs) ≡ deepest (map expr_depth xs) + 1
depth-List xs = search (rules, the_lemmas)

pub depth-Tuple : (xs : List Expr) → expr_depth (e.Tuple xs) ≡ deepest (map expr_depth xs) + 1
depth-Tuple xs = search (rules, the_lemmas)

pub depth-Dict : (xs : List Pair) → expr_depth (e.Dict xs) ≡ deepest (map pair_depth xs) + 1
depth-Dict xs = search (rules, the_lemmas)

pub depth-ListComprehension : (x : Expr) (cs : List Clause) (own : ComprehensionFrame) → expr_depth (e.ListComprehension x cs own) ≡ max (expr_depth x) (deepest (map clause_depth cs)) + 1
depth-ListComprehension x cs own = search (rules, the_lemmas)

pub depth-DictComprehension : (x : Pair) (cs : List Clause) (own : ComprehensionFrame) → expr_depth (e.DictComprehension x cs own) ≡ max (pair_depth x) (deepest (map clause_depth cs)) + 1
depth-DictComprehension x cs own = search (rules, the_lemmas)

pub depth-Primary : (x : Expr) (xs : List Suffix) → expr_depth (e.Primary x xs) ≡ max (expr_depth x) (deepest (map suffix_depth xs)) + 1
depth-Primary x xs = search (rules, the_lemmas)

pub depth-Unary : (os : List UnaryOperator) (x : Expr) → expr_depth (e.Unary os x) ≡ expr_depth x + 1
depth-Unary os x = search (rules, the_lemmas)

pub depth-Binary : (x : Expr) (os : List Operation) → expr_depth (e.Binary x os) ≡ max (expr_depth x) (deepest (map operation_depth os)) + 1
depth-Binary x os = search (rules, the_lemmas)

pub depth-Compare : (x : Expr) (o : Comparison) (y : Expr) → expr_depth (e.Compare x o y) ≡ max (expr_depth x) (expr_depth y) + 1
depth-Compare x o y = search (rules, the_lemmas)

pub depth-Conditional : (cs : List Choice) (x : Expr) → expr_depth (e.Conditional cs x) ≡ max (deepest (map choice_depth cs)) (expr_depth x) + 1
depth-Conditional cs x = search (rules, the_lemmas)

pub depth-Lambda : expr_depth e.Lambda ≡ 1
depth-Lambda = search (rules, the_lemmas)

pub depth-Call : (xs : List Argument) → suffix_depth (s.Call xs) ≡ deepest (map argument_depth xs)
depth-Call xs = search (rules, the_lemmas)

pub depth-Method : (n : Identifier) (xs : List Argument) → suffix_depth (s.Method n xs) ≡ deepest (map argument_depth xs)
depth-Method n xs = search (rules, the_lemmas)

pub depth-Attribute : (n : Identifier) → suffix_depth (s.Attribute n) ≡ 0
depth-Attribute n = search (rules, the_lemmas)

pub depth-Index : (x : Expr) → suffix_depth (s.Index x) ≡ expr_depth x
depth-Index x = search (rules, the_lemmas)

-- of an optional part
abbrev pub part_depth : Option Expr → ℕ
part_depth None = 0
part_depth (Some x) = expr_depth x

pub depth-Slice : (x y z : Option Expr) → suffix_depth (s.Slice x y z) ≡ max (part_depth x) (max (part_depth y) (part_depth z))
depth-Slice None None None = search (rules, the_lemmas)
depth-Slice None None (Some z) = search (rules, the_lemmas)
depth-Slice None (Some y) None = search (rules, the_lemmas)
depth-Slice None (Some y) (Some z) = search (rules, the_lemmas)
depth-Slice (Some x) None None = search (rules, the_lemmas)
depth-Slice (Some x) None (Some z) = search (rules, the_lemmas)
depth-Slice (Some x) (Some y) None = search (rules, the_lemmas)
depth-Slice (Some x) (Some y) (Some z) = search (rules, the_lemmas)

pub depth-Positional : (x : Expr) → argument_depth (a.Positional x) ≡ expr_depth x
depth-Positional x = search (rules, the_lemmas)

pub depth-Named : (b : List ℕ) (x : Expr) → argument_depth (a.Named b x) ≡ expr_depth x
depth-Named b x = search (rules, the_lemmas)

pub depth-Star : (x : Expr) → argument_depth (a.Star x) ≡ expr_depth x
depth-Star x = search (rules, the_lemmas)

pub depth-StarStar : (x : Expr) → argument_depth (a.StarStar x) ≡ expr_depth x
depth-StarStar x = search (rules, the_lemmas)

pub depth-For : (v : TargetExpr) (x : Expr) → clause_depth (cl.For v x) ≡ max (target_depth v) (expr_depth x)
depth-For v x = search (rules, the_lemmas)

pub depth-If : (x : Expr) → clause_depth (cl.If x) ≡ expr_depth x
depth-If x = search (rules, the_lemmas)

pub depth-target_Name : (n : Identifier) → target_depth (t.Name n) ≡ 1
depth-target_Name n = search (rules, the_lemmas)

pub depth-target_Index : (x i : Expr) → target_depth (t.Index x i) ≡ max (expr_depth x) (expr_depth i) + 1
depth-target_Index x i = search (rules, the_lemmas)

pub depth-target_Tuple : (xs : List TargetExpr) → target_depth (t.Tuple xs) ≡ deepest (map target_depth xs) + 1
depth-target_Tuple xs = search (rules, the_lemmas)

pub depth-target_List : (xs : List TargetExpr) → target_depth (t.List xs) ≡ deepest (map target_depth xs) + 1
depth-target_List xs = search (rules, the_lemmas)

pub depth-pair : (x y : Expr) → pair_depth (roll-Pair (record { key = x; value = y })) ≡ max (expr_depth x) (expr_depth y)
depth-pair x y = search (rules, the_lemmas)

pub depth-operation : (o : Operator) (x : Expr) → operation_depth (roll-Operation (record { operator = o; operand = x })) ≡ expr_depth x
depth-operation o x = search (rules, the_lemmas)

pub depth-choice : (x y : Expr) → choice_depth (roll-Choice (record { value = x; condition = y })) ≡ max (expr_depth x) (expr_depth y)
depth-choice x y = search (rules, the_lemmas)

-- ---- statements

pub depth-Simple : (xs : List SmallStmt) → stmt_depth (st.Simple xs) ≡ deepest (map small_depth xs) + 1
depth-Simple xs = search (rules, stmt.the_lemmas)

pub depth-stmt_If : (bs : List Branch) (zs : List Stmt) → stmt_depth (st.If bs zs) ≡ max (deepest (map branch_depth bs)) (deepest (map stmt_depth zs)) + 1
depth-stmt_If bs zs = search (rules, stmt.the_lemmas)

pub depth-stmt_For : (v : TargetExpr) (x : Expr) (xs : List Stmt) → stmt_depth (st.For v x xs) ≡ max (target_depth v) (max (expr_depth x) (deepest (map stmt_depth xs))) + 1
depth-stmt_For v x xs = search (rules, stmt.the_lemmas)

pub depth-stmt_Def : (n : Identifier) (ps : List Parameter) (xs : List Stmt) → stmt_depth (st.Def n ps xs) ≡ max (deepest (map parameter_depth ps)) (deepest (map stmt_depth xs)) + 1
depth-stmt_Def n ps xs = search (rules, stmt.the_lemmas)

pub depth-branch : (x : Expr) (xs : List Stmt) → branch_depth (roll-Branch (record { condition = x; block = xs })) ≡ max (expr_depth x) (deepest (map stmt_depth xs))
depth-branch x xs = search (rules, stmt.the_lemmas)
