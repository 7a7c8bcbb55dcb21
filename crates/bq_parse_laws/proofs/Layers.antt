-- The layer that a made node opens to.
use Rattle.std.proofs.Common.{◌≡◌, ℕ, ℤ, List, Option, rules}
use Rattle.bq_parse_grammar.specs.declared.tree.Argument.TheOpen.{Argument-F, Choice-F, Clause-F, Expr-F, Operation-F, Pair-F, Suffix-F, TargetExpr-F}
use Rattle.bq_parse_grammar.specs.declared.tree.Identifier.{Identifier}
use Rattle.bq_parse_grammar.specs.declared.tree.UnaryOperator.{UnaryOperator}
use Rattle.bq_parse_grammar.specs.declared.tree.Comparison.{Comparison}
use Rattle.bq_parse_grammar.specs.declared.tree.Argument.{Argument, out-Argument}
use Rattle.bq_parse_grammar.specs.declared.tree.Argument.TheVariants as a
use Rattle.bq_parse_grammar.specs.declared.tree.Choice.{Choice, out-Choice, roll-Choice}
use Rattle.bq_parse_grammar.specs.declared.tree.ComprehensionFrame.{ComprehensionFrame}
use Rattle.bq_parse_grammar.specs.declared.tree.Clause.{Clause, out-Clause}
use Rattle.bq_parse_grammar.specs.declared.tree.Clause.TheVariants as cl
use Rattle.bq_parse_grammar.specs.declared.tree.Expr.{Expr, out-Expr, the_lemmas}
use Rattle.bq_parse_grammar.specs.declared.tree.Expr.TheVariants as e
use Rattle.bq_parse_grammar.specs.declared.tree.Operation.{Operation, out-Operation, roll-Operation}
use Rattle.bq_parse_grammar.specs.declared.tree.Pair.{Pair, out-Pair, roll-Pair}
use Rattle.bq_parse_grammar.specs.declared.tree.Suffix.{Suffix, out-Suffix}
use Rattle.bq_parse_grammar.specs.declared.tree.Suffix.TheVariants as s
use Rattle.bq_parse_grammar.specs.declared.tree.TargetExpr.{TargetExpr, out-TargetExpr}
use Rattle.bq_parse_grammar.specs.declared.tree.TargetExpr.TheVariants as t
use Rattle.bq_parse_grammar.specs.declared.tree.Branch.{Branch, out-Branch, roll-Branch}
use Rattle.bq_parse_grammar.specs.declared.tree.Parameter.{Parameter}
use Rattle.bq_parse_grammar.specs.declared.tree.SmallStmt.{SmallStmt}
use Rattle.bq_parse_grammar.specs.declared.tree.Stmt as stmt
use Rattle.bq_parse_grammar.specs.declared.tree.Stmt.{Stmt, out-Stmt}
use Rattle.bq_parse_grammar.specs.declared.tree.Stmt.TheOpen.{Stmt-F, Branch-F}
use Rattle.bq_parse_grammar.specs.declared.tree.Stmt.TheVariants as st

pub out-Name : (n : Identifier) → out-Expr (e.Name n) ≡ Expr-F.Expr::Name n
out-Name n = search (rules, the_lemmas)

pub out-Int : (n : ℤ) → out-Expr (e.Int n) ≡ Expr-F.Int n
out-Int n = search (rules, the_lemmas)

pub out-String : (b : List ℕ) → out-Expr (e.String b) ≡ Expr-F.String b
out-String b = search (rules, the_lemmas)

pub out-List : (xs : List Expr) → out-Expr (e.List xs) ≡ Expr-F.Expr::List xs
out-List xs = search (rules, the_lemmas)

pub out-Tuple : (xs : List Expr) → out-Expr (e.Tuple xs) ≡ Expr-F.Expr::Tuple xs
out-Tuple xs = search (rules, the_lemmas)

pub out-Dict : (ps : List Pair) → out-Expr (e.Dict ps) ≡ Expr-F.Dict ps
out-Dict ps = search (rules, the_lemmas)

pub out-ListComprehension : (x : Expr) (cs : List Clause) (own : ComprehensionFrame) → out-Expr (e.ListComprehension x cs own) ≡ Expr-F.ListComprehension x cs own
out-ListComprehension x cs own = search (rules, the_lemmas)

pub out-DictComprehension : (p : Pair) (cs : List Clause) (own : ComprehensionFrame) → out-Expr (e.DictComprehension p cs own) ≡ Expr-F.DictComprehension p cs own
out-DictComprehension p cs own = search (rules, the_lemmas)

pub out-Primary : (x : Expr) (xs : List Suffix) → out-Expr (e.Primary x xs) ≡ Expr-F.Primary x xs
out-Primary x xs = search (rules, the_lemmas)

pub out-Unary : (os : List UnaryOperator) (x : Expr) → out-Expr (e.Unary os x) ≡ Expr-F.Unary os x
out-Unary os x = search (rules, the_lemmas)

pub out-Binary : (x : Expr) (os : List Operation) → out-Expr (e.Binary x os) ≡ Expr-F.Binary x os
out-Binary x os = search (rules, the_lemmas)

pub out-Compare : (x : Expr) (o : Comparison) (y : Expr) → out-Expr (e.Compare x o y) ≡ Expr-F.Compare x o y
out-Compare x o y = search (rules, the_lemmas)

pub out-Conditional : (cs : List Choice) (x : Expr) → out-Expr (e.Conditional cs x) ≡ Expr-F.Conditional cs x
out-Conditional cs x = search (rules, the_lemmas)

pub out-Lambda : out-Expr e.Lambda ≡ Expr-F.Lambda
out-Lambda = search (rules, the_lemmas)

pub out-Call : (xs : List Argument) → out-Suffix (s.Call xs) ≡ Suffix-F.Call xs
out-Call xs = search (rules, the_lemmas)

pub out-Method : (n : Identifier) (xs : List Argument) → out-Suffix (s.Method n xs) ≡ Suffix-F.Method n xs
out-Method n xs = search (rules, the_lemmas)

pub out-Attribute : (n : Identifier) → out-Suffix (s.Attribute n) ≡ Suffix-F.Attribute n
out-Attribute n = search (rules, the_lemmas)

pub out-Index : (x : Expr) → out-Suffix (s.Index x) ≡ Suffix-F.Suffix::Index x
out-Index x = search (rules, the_lemmas)

pub out-Slice : (x y z : Option Expr) → out-Suffix (s.Slice x y z) ≡ Suffix-F.Slice x y z
out-Slice x y z = search (rules, the_lemmas)

pub out-Positional : (x : Expr) → out-Argument (a.Positional x) ≡ Argument-F.Positional x
out-Positional x = search (rules, the_lemmas)

pub out-Named : (b : List ℕ) (x : Expr) → out-Argument (a.Named b x) ≡ Argument-F.Named b x
out-Named b x = search (rules, the_lemmas)

pub out-Star : (x : Expr) → out-Argument (a.Star x) ≡ Argument-F.Star x
out-Star x = search (rules, the_lemmas)

pub out-StarStar : (x : Expr) → out-Argument (a.StarStar x) ≡ Argument-F.StarStar x
out-StarStar x = search (rules, the_lemmas)

pub out-For : (v : TargetExpr) (x : Expr) → out-Clause (cl.For v x) ≡ Clause-F.For v x
out-For v x = search (rules, the_lemmas)

pub out-If : (x : Expr) → out-Clause (cl.If x) ≡ Clause-F.If x
out-If x = search (rules, the_lemmas)

pub out-target_Name : (n : Identifier) → out-TargetExpr (t.Name n) ≡ TargetExpr-F.TargetExpr::Name n
out-target_Name n = search (rules, the_lemmas)

pub out-target_Index : (x i : Expr) → out-TargetExpr (t.Index x i) ≡ TargetExpr-F.TargetExpr::Index x i
out-target_Index x i = search (rules, the_lemmas)

pub out-target_Tuple : (xs : List TargetExpr) → out-TargetExpr (t.Tuple xs) ≡ TargetExpr-F.TargetExpr::Tuple xs
out-target_Tuple xs = search (rules, the_lemmas)

pub out-target_List : (xs : List TargetExpr) → out-TargetExpr (t.List xs) ≡ TargetExpr-F.TargetExpr::List xs
out-target_List xs = search (rules, the_lemmas)

abbrev pub PairLayer : Type 0
PairLayer = Pair-F Argument Clause Expr Suffix TargetExpr Choice Operation Pair

pub opened_pair : (l : PairLayer) → out-Pair (roll-Pair l) ≡ l
opened_pair l = search (rules, the_lemmas)

abbrev pub OperationLayer : Type 0
OperationLayer = Operation-F Argument Clause Expr Suffix TargetExpr Choice Operation Pair

pub opened_operation : (l : OperationLayer) → out-Operation (roll-Operation l) ≡ l
opened_operation l = search (rules, the_lemmas)

abbrev pub ChoiceLayer : Type 0
ChoiceLayer = Choice-F Argument Clause Expr Suffix TargetExpr Choice Operation Pair

pub opened_choice : (l : ChoiceLayer) → out-Choice (roll-Choice l) ≡ l
opened_choice l = search (rules, the_lemmas)

pub out-Simple : (xs : List SmallStmt) → out-Stmt (st.Simple xs) ≡ Stmt-F.Simple xs
out-Simple xs = search (rules, stmt.the_lemmas)

pub out-stmt_If : (bs : List Branch) (zs : List Stmt) → out-Stmt (st.If bs zs) ≡ Stmt-F.If bs zs
out-stmt_If bs zs = search (rules, stmt.the_lemmas)

pub out-stmt_For : (v : TargetExpr) (x : Expr) (xs : List Stmt) → out-Stmt (st.For v x xs) ≡ Stmt-F.For v x xs
out-stmt_For v x xs = search (rules, stmt.the_lemmas)

pub out-stmt_Def : (n : Identifier) (ps : List Parameter) (xs : List Stmt) → out-Stmt (st.Def n ps xs) ≡ Stmt-F.Def n ps xs
out-stmt_Def n ps xs = search (rules, stmt.the_lemmas)

abbrev pub BranchLayer : Type 0
BranchLayer = Branch-F Stmt Branch

pub opened_branch : (l : BranchLayer) → out-Branch (roll-Branch l) ≡ l
opened_branch l = search (rules, stmt.the_lemmas)
