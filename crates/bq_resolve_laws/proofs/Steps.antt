-- What a made node needs.
use Rattle.std.proofs.Common.{◌≡◌, ℕ, max, ℤ, List, map, Option, Some, None, rules}
use Rattle.bq_parse_grammar.specs.declared.tree.Comparison.{Comparison}
use Rattle.bq_parse_grammar.specs.declared.tree.Operator.{Operator}
use Rattle.bq_parse_grammar.specs.declared.tree.UnaryOperator.{UnaryOperator}
use Rattle.bq_parse_grammar.specs.declared.tree.ComprehensionFrame.{ComprehensionFrame}
use Rattle.bq_parse_grammar.specs.declared.tree.Identifier.{Identifier}
use Rattle.bq_parse_grammar.specs.declared.tree.Expr.{Expr, the_lemmas}
use Rattle.bq_parse_grammar.specs.declared.tree.Expr.TheVariants as tree
use Rattle.bq_parse_grammar.specs.declared.tree.Argument.{Argument}
use Rattle.bq_parse_grammar.specs.declared.tree.Argument.TheVariants as a
use Rattle.bq_parse_grammar.specs.declared.tree.Choice.{Choice, roll-Choice}
use Rattle.bq_parse_grammar.specs.declared.tree.Clause.{Clause}
use Rattle.bq_parse_grammar.specs.declared.tree.Clause.TheVariants as cl
use Rattle.bq_parse_grammar.specs.declared.tree.Operation.{Operation, roll-Operation}
use Rattle.bq_parse_grammar.specs.declared.tree.Pair.{Pair, roll-Pair}
use Rattle.bq_parse_grammar.specs.declared.tree.Suffix.{Suffix}
use Rattle.bq_parse_grammar.specs.declared.tree.Suffix.TheVariants as s
use Rattle.bq_parse_grammar.specs.declared.tree.TargetExpr.{TargetExpr}
use Rattle.bq_parse_grammar.specs.declared.tree.TargetExpr.TheVariants as t
use Rattle.bq_parse_grammar.specs.declared.tree.Branch.{Branch, roll-Branch}
use Rattle.bq_parse_grammar.specs.declared.tree.SmallStmt.{SmallStmt}
use Rattle.bq_parse_grammar.specs.declared.tree.Stmt as stmt
use Rattle.bq_parse_grammar.specs.declared.tree.Stmt.{Stmt}
use Rattle.bq_parse_grammar.specs.declared.tree.Stmt.TheVariants as st
use Rattle.bq_resolve_laws.specs.FrameSizes.{most, referent_slots, comprehension_slots, expr_slots, argument_slots, clause_slots, suffix_slots, target_slots, choice_slots, operation_slots, pair_slots, small_slots, stmt_slots, branch_slots}

pub slots-Name : (n : Identifier) → expr_slots (tree.Name n) ≡ referent_slots n.referent
slots-Name n = search (rules, the_lemmas)

pub slots-Int : (i : ℤ) → expr_slots (tree.Int i) ≡ 0
slots-Int i = search (rules, the_lemmas)

pub slots-String : (b : List ℕ) → expr_slots (tree.String b) ≡ 0
slots-String b = search (rules, the_lemmas)

pub slots-List : (xs : List Expr) → expr_slots (tree.List xs) ≡ most (map expr_slots xs)
slots-List xs = search (rules, the_lemmas)

pub slots-Tuple : (xs : List Expr) → expr_slots (tree.Tuple xs) ≡ most (map expr_slots xs)
slots-Tuple xs = search (rules, the_lemmas)

pub slots-Dict : (xs : List Pair) → expr_slots (tree.Dict xs) ≡ most (map pair_slots xs)
slots-Dict xs = search (rules, the_lemmas)

pub slots-ListComprehension : (x : Expr) (cs : List Clause) (own : ComprehensionFrame) → expr_slots (tree.ListComprehension x cs own) ≡ comprehension_slots own (expr_slots x) (map clause_slots cs)
slots-ListComprehension x cs own = search (rules, the_lemmas)

pub slots-DictComprehension : (x : Pair) (cs : List Clause) (own : ComprehensionFrame) → expr_slots (tree.DictComprehension x cs own) ≡ comprehension_slots own (pair_slots x) (map clause_slots cs)
slots-DictComprehension x cs own = search (rules, the_lemmas)

pub slots-Primary : (x : Expr) (xs : List Suffix) → expr_slots (tree.Primary x xs) ≡ max (expr_slots x) (most (map suffix_slots xs))
slots-Primary x xs = search (rules, the_lemmas)

pub slots-Unary : (os : List UnaryOperator) (x : Expr) → expr_slots (tree.Unary os x) ≡ expr_slots x
slots-Unary os x = search (rules, the_lemmas)

pub slots-Binary : (x : Expr) (os : List Operation) → expr_slots (tree.Binary x os) ≡ max (expr_slots x) (most (map operation_slots os))
slots-Binary x os = search (rules, the_lemmas)

pub slots-Compare : (x : Expr) (o : Comparison) (y : Expr) → expr_slots (tree.Compare x o y) ≡ max (expr_slots x) (expr_slots y)
slots-Compare x o y = search (rules, the_lemmas)

pub slots-Conditional : (xs : List Choice) (x : Expr) → expr_slots (tree.Conditional xs x) ≡ max (most (map choice_slots xs)) (expr_slots x)
slots-Conditional xs x = search (rules, the_lemmas)

pub slots-Lambda : expr_slots tree.Lambda ≡ 0
slots-Lambda = search (rules, the_lemmas)

pub slots-Positional : (x : Expr) → argument_slots (a.Positional x) ≡ expr_slots x
slots-Positional x = search (rules, the_lemmas)

pub slots-Named : (b : List ℕ) (x : Expr) → argument_slots (a.Named b x) ≡ expr_slots x
slots-Named b x = search (rules, the_lemmas)

pub slots-Star : (x : Expr) → argument_slots (a.Star x) ≡ expr_slots x
slots-Star x = search (rules, the_lemmas)

pub slots-StarStar : (x : Expr) → argument_slots (a.StarStar x) ≡ expr_slots x
slots-StarStar x = search (rules, the_lemmas)

pub slots-For : (t : TargetExpr) (x : Expr) → clause_slots (cl.For t x) ≡ record { iterable = expr_slots x; rest = target_slots t }
slots-For t x = search (rules, the_lemmas)

pub slots-If : (x : Expr) → clause_slots (cl.If x) ≡ record { iterable = 0; rest = expr_slots x }
slots-If x = search (rules, the_lemmas)

pub slots-Call : (xs : List Argument) → suffix_slots (s.Call xs) ≡ most (map argument_slots xs)
slots-Call xs = search (rules, the_lemmas)

pub slots-Method : (m : Identifier) (xs : List Argument) → suffix_slots (s.Method m xs) ≡ most (map argument_slots xs)
slots-Method m xs = search (rules, the_lemmas)

pub slots-Attribute : (m : Identifier) → suffix_slots (s.Attribute m) ≡ 0
slots-Attribute m = search (rules, the_lemmas)

pub slots-Index : (x : Expr) → suffix_slots (s.Index x) ≡ expr_slots x
slots-Index x = search (rules, the_lemmas)

-- of an optional part
abbrev pub part_slots : Option Expr → ℕ
part_slots None = 0
part_slots (Some x) = expr_slots x

pub slots-Slice : (x y z : Option Expr) → suffix_slots (s.Slice x y z) ≡ max (part_slots x) (max (part_slots y) (part_slots z))
slots-Slice None None None = search (rules, the_lemmas)
slots-Slice None None (Some z) = search (rules, the_lemmas)
slots-Slice None (Some y) None = search (rules, the_lemmas)
slots-Slice None (Some y) (Some z) = search (rules, the_lemmas)
slots-Slice (Some x) None None = search (rules, the_lemmas)
slots-Slice (Some x) None (Some z) = search (rules, the_lemmas)
slots-Slice (Some x) (Some y) None = search (rules, the_lemmas)
slots-Slice (Some x) (Some y) (Some z) = search (rules, the_lemmas)

pub slots-target_Name : (n : Identifier) → target_slots (t.Name n) ≡ referent_slots n.referent
slots-target_Name n = search (rules, the_lemmas)

pub slots-target_Index : (x : Expr) (y : Expr) → target_slots (t.Index x y) ≡ max (expr_slots x) (expr_slots y)
slots-target_Index x y = search (rules, the_lemmas)

pub slots-target_Tuple : (xs : List TargetExpr) → target_slots (t.Tuple xs) ≡ most (map target_slots xs)
slots-target_Tuple xs = search (rules, the_lemmas)

pub slots-target_List : (xs : List TargetExpr) → target_slots (t.List xs) ≡ most (map target_slots xs)
slots-target_List xs = search (rules, the_lemmas)

pub slots-choice : (x : Expr) (y : Expr) → choice_slots (roll-Choice (record { value = x; condition = y })) ≡ max (expr_slots x) (expr_slots y)
slots-choice x y = search (rules, the_lemmas)

pub slots-operation : (o : Operator) (x : Expr) → operation_slots (roll-Operation (record { operator = o; operand = x })) ≡ expr_slots x
slots-operation o x = search (rules, the_lemmas)

pub slots-pair : (x : Expr) (y : Expr) → pair_slots (roll-Pair (record { key = x; value = y })) ≡ max (expr_slots x) (expr_slots y)
slots-pair x y = search (rules, the_lemmas)

pub slots-Simple : (xs : List SmallStmt) → stmt_slots (st.Simple xs) ≡ most (map small_slots xs)
slots-Simple xs = search (rules, stmt.the_lemmas)

pub slots-stmt_If : (bs : List Branch) (xs : List Stmt) → stmt_slots (st.If bs xs) ≡ max (most (map branch_slots bs)) (most (map stmt_slots xs))
slots-stmt_If bs xs = search (rules, stmt.the_lemmas)

pub slots-stmt_For : (t : TargetExpr) (x : Expr) (xs : List Stmt) → stmt_slots (st.For t x xs) ≡ max (target_slots t) (max (expr_slots x) (most (map stmt_slots xs)))
slots-stmt_For t x xs = search (rules, stmt.the_lemmas)

pub slots-branch : (x : Expr) (xs : List Stmt) → branch_slots (roll-Branch (record { condition = x; block = xs })) ≡ max (expr_slots x) (most (map stmt_slots xs))
slots-branch x xs = search (rules, stmt.the_lemmas)
