-- How many nodes of a tree are left out, by its first layer.
use Rattle.std.proofs.Common.{◌≡◌, ℕ, ◌+◌, Bool, map, Option, Some, None, rules, sym, ap, ◌∙◌}
use Rattle.bq_parse_grammar.specs.declared.tree.Argument.TheOpen.{Argument-F, Clause-F, Expr-F, Suffix-F, TargetExpr-F}
use Rattle.bq_parse_grammar.specs.declared.tree.Argument.{Argument, out-Argument, roll-Argument}
use Rattle.bq_parse_grammar.specs.declared.tree.Choice.{Choice, out-Choice, roll-Choice}
use Rattle.bq_parse_grammar.specs.declared.tree.Clause.{Clause, out-Clause, roll-Clause}
use Rattle.bq_parse_grammar.specs.declared.tree.Expr.{Expr, out-Expr, roll-Expr, the_lemmas}
use Rattle.bq_parse_grammar.specs.declared.tree.Operation.{Operation, out-Operation, roll-Operation}
use Rattle.bq_parse_grammar.specs.declared.tree.Pair.{Pair, out-Pair, roll-Pair}
use Rattle.bq_parse_grammar.specs.declared.tree.Suffix.{Suffix, out-Suffix, roll-Suffix}
use Rattle.bq_parse_grammar.specs.declared.tree.TargetExpr.{TargetExpr, out-TargetExpr, roll-TargetExpr}
use Rattle.bq_parse_grammar.specs.declared.tree.Branch.{Branch, out-Branch, roll-Branch}
use Rattle.bq_parse_grammar.specs.declared.tree.Stmt as stmt
use Rattle.bq_parse_grammar.specs.declared.tree.Stmt.{Stmt, out-Stmt, roll-Stmt}
use Rattle.bq_parse_grammar.specs.declared.tree.Stmt.TheOpen.{Stmt-F}
use Rattle.bq_parse_laws.specs.Parts.{ExprLayer, SuffixLayer, ArgumentLayer, ClauseLayer, TargetLayer}
use Rattle.bq_parse_laws.proofs.Layers.{PairLayer, OperationLayer, ChoiceLayer, BranchLayer}
use Rattle.bq_parse_laws.specs.LeftOut.{sum_of, division, star, expr_count, target_count, argument_count, clause_count, suffix_count, choice_count, operation_count, pair_count, parameter_count, small_count, stmt_count, branch_count}

module _ (b : Bool) where
  abbrev pub expr_by : ExprLayer → ℕ
  expr_by (Expr-F.Expr::Name n) = 0
  expr_by (Expr-F.Int n) = 0
  expr_by (Expr-F.String s) = 0
  expr_by (Expr-F.Expr::List xs) = sum_of (map (expr_count b) xs)
  expr_by (Expr-F.Expr::Tuple xs) = sum_of (map (expr_count b) xs)
  expr_by (Expr-F.Dict xs) = sum_of (map (pair_count b) xs)
  expr_by (Expr-F.ListComprehension x cs own) = expr_count b x + sum_of (map (clause_count b) cs)
  expr_by (Expr-F.DictComprehension x cs own) = pair_count b x + sum_of (map (clause_count b) cs)
  expr_by (Expr-F.Primary x xs) = expr_count b x + sum_of (map (suffix_count b) xs)
  expr_by (Expr-F.Unary os x) = expr_count b x
  expr_by (Expr-F.Binary x os) = expr_count b x + sum_of (map (operation_count b) os)
  expr_by (Expr-F.Compare x o y) = expr_count b x + expr_count b y
  expr_by (Expr-F.Conditional cs x) = sum_of (map (choice_count b) cs) + expr_count b x
  expr_by Expr-F.Lambda = 1

  expr_rolled : (l : ExprLayer) → expr_count b (roll-Expr l) ≡ expr_by l
  expr_rolled (Expr-F.Expr::Name n) = search (rules, the_lemmas)
  expr_rolled (Expr-F.Int n) = search (rules, the_lemmas)
  expr_rolled (Expr-F.String s) = search (rules, the_lemmas)
  expr_rolled (Expr-F.Expr::List xs) = search (rules, the_lemmas)
  expr_rolled (Expr-F.Expr::Tuple xs) = search (rules, the_lemmas)
  expr_rolled (Expr-F.Dict xs) = search (rules, the_lemmas)
  expr_rolled (Expr-F.ListComprehension x cs own) = search (rules, the_lemmas)
  expr_rolled (Expr-F.DictComprehension x cs own) = search (rules, the_lemmas)
  expr_rolled (Expr-F.Primary x xs) = search (rules, the_lemmas)
  expr_rolled (Expr-F.Unary os x) = search (rules, the_lemmas)
  expr_rolled (Expr-F.Binary x os) = search (rules, the_lemmas)
  expr_rolled (Expr-F.Compare x o y) = search (rules, the_lemmas)
  expr_rolled (Expr-F.Conditional cs x) = search (rules, the_lemmas)
  expr_rolled Expr-F.Lambda = search (rules, the_lemmas)

  abbrev pub optional_by : Option Expr → ℕ
  optional_by None = 0
  optional_by (Some x) = expr_count b x

  abbrev pub suffix_by : SuffixLayer → ℕ
  suffix_by (Suffix-F.Call xs) = sum_of (map (argument_count b) xs)
  suffix_by (Suffix-F.Method n xs) = sum_of (map (argument_count b) xs)
  suffix_by (Suffix-F.Attribute n) = 1
  suffix_by (Suffix-F.Suffix::Index x) = expr_count b x
  suffix_by (Suffix-F.Slice x y z) = optional_by x + (optional_by y + optional_by z)

  suffix_rolled : (l : SuffixLayer) → suffix_count b (roll-Suffix l) ≡ suffix_by l
  suffix_rolled (Suffix-F.Call xs) = search (rules, the_lemmas)
  suffix_rolled (Suffix-F.Method n xs) = search (rules, the_lemmas)
  suffix_rolled (Suffix-F.Attribute n) = search (rules, the_lemmas)
  suffix_rolled (Suffix-F.Suffix::Index x) = search (rules, the_lemmas)
  suffix_rolled (Suffix-F.Slice None None None) = search (rules, the_lemmas)
  suffix_rolled (Suffix-F.Slice None None (Some z)) = search (rules, the_lemmas)
  suffix_rolled (Suffix-F.Slice None (Some y) None) = search (rules, the_lemmas)
  suffix_rolled (Suffix-F.Slice None (Some y) (Some z)) = search (rules, the_lemmas)
  suffix_rolled (Suffix-F.Slice (Some x) None None) = search (rules, the_lemmas)
  suffix_rolled (Suffix-F.Slice (Some x) None (Some z)) = search (rules, the_lemmas)
  suffix_rolled (Suffix-F.Slice (Some x) (Some y) None) = search (rules, the_lemmas)
  suffix_rolled (Suffix-F.Slice (Some x) (Some y) (Some z)) = search (rules, the_lemmas)

  abbrev pub argument_by : ArgumentLayer → ℕ
  argument_by (Argument-F.Positional x) = expr_count b x
  argument_by (Argument-F.Named s x) = expr_count b x
  argument_by (Argument-F.Star x) = star b + expr_count b x
  argument_by (Argument-F.StarStar x) = star b + expr_count b x

  argument_rolled : (l : ArgumentLayer) → argument_count b (roll-Argument l) ≡ argument_by l
  argument_rolled (Argument-F.Positional x) = search (rules, the_lemmas)
  argument_rolled (Argument-F.Named s x) = search (rules, the_lemmas)
  argument_rolled (Argument-F.Star x) = search (rules, the_lemmas)
  argument_rolled (Argument-F.StarStar x) = search (rules, the_lemmas)

  abbrev pub clause_by : ClauseLayer → ℕ
  clause_by (Clause-F.For v x) = target_count b v + expr_count b x
  clause_by (Clause-F.If x) = expr_count b x

  clause_rolled : (l : ClauseLayer) → clause_count b (roll-Clause l) ≡ clause_by l
  clause_rolled (Clause-F.For v x) = search (rules, the_lemmas)
  clause_rolled (Clause-F.If x) = search (rules, the_lemmas)

  abbrev pub target_by : TargetLayer → ℕ
  target_by (TargetExpr-F.TargetExpr::Name n) = 0
  target_by (TargetExpr-F.TargetExpr::Index x i) = expr_count b x + expr_count b i
  target_by (TargetExpr-F.TargetExpr::Tuple xs) = sum_of (map (target_count b) xs)
  target_by (TargetExpr-F.TargetExpr::List xs) = sum_of (map (target_count b) xs)

  target_rolled : (l : TargetLayer) → target_count b (roll-TargetExpr l) ≡ target_by l
  target_rolled (TargetExpr-F.TargetExpr::Name n) = search (rules, the_lemmas)
  target_rolled (TargetExpr-F.TargetExpr::Index x i) = search (rules, the_lemmas)
  target_rolled (TargetExpr-F.TargetExpr::Tuple xs) = search (rules, the_lemmas)
  target_rolled (TargetExpr-F.TargetExpr::List xs) = search (rules, the_lemmas)

  pair_rolled : (l : PairLayer) → pair_count b (roll-Pair l) ≡ expr_count b l.key + expr_count b l.value
  pair_rolled l = search (rules, the_lemmas)

  operation_rolled : (l : OperationLayer) → operation_count b (roll-Operation l) ≡ division l.operator + expr_count b l.operand
  operation_rolled l = search (rules, the_lemmas)

  choice_rolled : (l : ChoiceLayer) → choice_count b (roll-Choice l) ≡ expr_count b l.value + expr_count b l.condition
  choice_rolled l = search (rules, the_lemmas)

  abbrev pub stmt_by : Stmt-F Stmt Branch → ℕ
  stmt_by (Stmt-F.Simple xs) = sum_of (map (small_count b) xs)
  stmt_by (Stmt-F.If xs zs) = sum_of (map (branch_count b) xs) + sum_of (map (stmt_count b) zs)
  stmt_by (Stmt-F.For v x xs) = target_count b v + (expr_count b x + sum_of (map (stmt_count b) xs))
  stmt_by (Stmt-F.Def n ps xs) = sum_of (map (parameter_count b) ps) + sum_of (map (stmt_count b) xs)

  stmt_rolled : (l : Stmt-F Stmt Branch) → stmt_count b (roll-Stmt l) ≡ stmt_by l
  stmt_rolled (Stmt-F.Simple xs) = search (rules, stmt.the_lemmas)
  stmt_rolled (Stmt-F.If xs zs) = search (rules, stmt.the_lemmas)
  stmt_rolled (Stmt-F.For v x xs) = search (rules, stmt.the_lemmas)
  stmt_rolled (Stmt-F.Def n ps xs) = search (rules, stmt.the_lemmas)

  branch_rolled : (l : BranchLayer) → branch_count b (roll-Branch l) ≡ expr_count b l.condition + sum_of (map (stmt_count b) l.block)
  branch_rolled l = search (rules, stmt.the_lemmas)

  -- ---- of a value

  rolled_expr : (x : Expr) → roll-Expr (out-Expr x) ≡ x
  rolled_expr x = search (rules, the_lemmas)

  pub expr_opened : (x : Expr) → expr_count b x ≡ expr_by (out-Expr x)
  expr_opened x = ap (expr_count b) (sym (rolled_expr x)) ∙ expr_rolled (out-Expr x)

  rolled_suffix : (x : Suffix) → roll-Suffix (out-Suffix x) ≡ x
  rolled_suffix x = search (rules, the_lemmas)

  pub suffix_opened : (x : Suffix) → suffix_count b x ≡ suffix_by (out-Suffix x)
  suffix_opened x = ap (suffix_count b) (sym (rolled_suffix x)) ∙ suffix_rolled (out-Suffix x)

  rolled_argument : (x : Argument) → roll-Argument (out-Argument x) ≡ x
  rolled_argument x = search (rules, the_lemmas)

  pub argument_opened : (x : Argument) → argument_count b x ≡ argument_by (out-Argument x)
  argument_opened x = ap (argument_count b) (sym (rolled_argument x)) ∙ argument_rolled (out-Argument x)

  rolled_clause : (x : Clause) → roll-Clause (out-Clause x) ≡ x
  rolled_clause x = search (rules, the_lemmas)

  pub clause_opened : (x : Clause) → clause_count b x ≡ clause_by (out-Clause x)
  clause_opened x = ap (clause_count b) (sym (rolled_clause x)) ∙ clause_rolled (out-Clause x)

  rolled_target : (x : TargetExpr) → roll-TargetExpr (out-TargetExpr x) ≡ x
  rolled_target x = search (rules, the_lemmas)

  pub target_opened : (x : TargetExpr) → target_count b x ≡ target_by (out-TargetExpr x)
  target_opened x = ap (target_count b) (sym (rolled_target x)) ∙ target_rolled (out-TargetExpr x)

  rolled_pair : (x : Pair) → roll-Pair (out-Pair x) ≡ x
  rolled_pair x = search (rules, the_lemmas)

  pub pair_opened : (x : Pair) → pair_count b x ≡ expr_count b (out-Pair x).key + expr_count b (out-Pair x).value
  pair_opened x = ap (pair_count b) (sym (rolled_pair x)) ∙ pair_rolled (out-Pair x)

  rolled_operation : (x : Operation) → roll-Operation (out-Operation x) ≡ x
  rolled_operation x = search (rules, the_lemmas)

  pub operation_opened : (x : Operation) → operation_count b x ≡ division (out-Operation x).operator + expr_count b (out-Operation x).operand
  operation_opened x = ap (operation_count b) (sym (rolled_operation x)) ∙ operation_rolled (out-Operation x)

  rolled_choice : (x : Choice) → roll-Choice (out-Choice x) ≡ x
  rolled_choice x = search (rules, the_lemmas)

  pub choice_opened : (x : Choice) → choice_count b x ≡ expr_count b (out-Choice x).value + expr_count b (out-Choice x).condition
  choice_opened x = ap (choice_count b) (sym (rolled_choice x)) ∙ choice_rolled (out-Choice x)

  rolled_stmt : (x : Stmt) → roll-Stmt (out-Stmt x) ≡ x
  rolled_stmt x = search (rules, stmt.the_lemmas)

  pub stmt_opened : (x : Stmt) → stmt_count b x ≡ stmt_by (out-Stmt x)
  stmt_opened x = ap (stmt_count b) (sym (rolled_stmt x)) ∙ stmt_rolled (out-Stmt x)

  rolled_branch : (x : Branch) → roll-Branch (out-Branch x) ≡ x
  rolled_branch x = search (rules, stmt.the_lemmas)

  pub branch_opened : (x : Branch) → branch_count b x ≡ expr_count b (out-Branch x).condition + sum_of (map (stmt_count b) (out-Branch x).block)
  branch_opened x = ap (branch_count b) (sym (rolled_branch x)) ∙ branch_rolled (out-Branch x)
