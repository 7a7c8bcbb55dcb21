-- How deep a tree is: the most expressions, targets and statements in one another.
use Rattle.std.specs.Prelude.{ℕ, ◌+◌, max, List, [], ◌∷◌, map, Option, Some, None}
use Rattle.bq_parse_grammar.specs.declared.tree.Argument.TheFolds.{fold-Argument, fold-Choice, fold-Clause, fold-Expr, fold-Operation, fold-Pair, fold-Suffix, fold-TargetExpr}
use Rattle.bq_parse_grammar.specs.declared.tree.Argument.TheOpen.{Argument-F, Choice-F, Clause-F, Expr-F, Operation-F, Pair-F, Suffix-F, TargetExpr-F}
use Rattle.bq_parse_grammar.specs.declared.tree.Argument.{Argument}
use Rattle.bq_parse_grammar.specs.declared.tree.Choice.{Choice}
use Rattle.bq_parse_grammar.specs.declared.tree.Clause.{Clause}
use Rattle.bq_parse_grammar.specs.declared.tree.Expr.{Expr}
use Rattle.bq_parse_grammar.specs.declared.tree.Operation.{Operation}
use Rattle.bq_parse_grammar.specs.declared.tree.Pair.{Pair}
use Rattle.bq_parse_grammar.specs.declared.tree.Suffix.{Suffix}
use Rattle.bq_parse_grammar.specs.declared.tree.TargetExpr.{TargetExpr}
use Rattle.bq_parse_grammar.specs.declared.tree.Branch.{Branch}
use Rattle.bq_parse_grammar.specs.declared.tree.Parameter.{Parameter}
use Rattle.bq_parse_grammar.specs.declared.tree.Parameter.TheVariants as p
use Rattle.bq_parse_grammar.specs.declared.tree.SmallKind.{SmallKind}
use Rattle.bq_parse_grammar.specs.declared.tree.SmallKind.TheVariants as small
use Rattle.bq_parse_grammar.specs.declared.tree.SmallStmt.{SmallStmt}
use Rattle.bq_parse_grammar.specs.declared.tree.Stmt.{Stmt}
use Rattle.bq_parse_grammar.specs.declared.tree.Stmt.TheFolds.{fold-Branch, fold-Stmt}
use Rattle.bq_parse_grammar.specs.declared.tree.Stmt.TheOpen.{Branch-F, Stmt-F}

-- of the deepest
abbrev pub deepest : List ℕ → ℕ
deepest [] = 0
deepest (n ∷ ns) = max n (deepest ns)

-- the depth of an expression that may be missing; 0 where it is
abbrev pub optional_depth : Option ℕ → ℕ
optional_depth None = 0
optional_depth (Some n) = n

-- ---- one node, with the depth of each child in its place

-- an argument is as deep as its value
abbrev pub argument_step : Argument-F ℕ ℕ ℕ ℕ ℕ ℕ ℕ ℕ → ℕ
argument_step (Argument-F.Positional n) = n
argument_step (Argument-F.Named b n) = n
argument_step (Argument-F.Star n) = n
argument_step (Argument-F.StarStar n) = n

-- a `for` is as deep as the deeper of its variable and its iterable, an `if` as its condition
abbrev pub clause_step : Clause-F ℕ ℕ ℕ ℕ ℕ ℕ ℕ ℕ → ℕ
clause_step (Clause-F.For m n) = max m n
clause_step (Clause-F.If n) = n

-- `value if condition else` is as deep as the deeper of the two
abbrev pub choice_step : Choice-F ℕ ℕ ℕ ℕ ℕ ℕ ℕ ℕ → ℕ
choice_step x = max x.value x.condition

-- an operator with its right operand is as deep as that operand
abbrev pub operation_step : Operation-F ℕ ℕ ℕ ℕ ℕ ℕ ℕ ℕ → ℕ
operation_step x = x.operand

-- an entry of a dict is as deep as the deeper of its key and its value
abbrev pub pair_step : Pair-F ℕ ℕ ℕ ℕ ℕ ℕ ℕ ℕ → ℕ
pair_step x = max x.key x.value

-- a call or method is as deep as its deepest argument, an index or slice as the deepest part; `.name` alone is 0 deep
abbrev pub suffix_step : Suffix-F ℕ ℕ ℕ ℕ ℕ ℕ ℕ ℕ → ℕ
suffix_step (Suffix-F.Call ns) = deepest ns
suffix_step (Suffix-F.Method b ns) = deepest ns
suffix_step (Suffix-F.Attribute b) = 0
suffix_step (Suffix-F.Suffix::Index n) = n
suffix_step (Suffix-F.Slice l m n) = max (optional_depth l) (max (optional_depth m) (optional_depth n))

-- a name has depth 1; any other target is 1 deeper than the deepest in it
abbrev pub target_step : TargetExpr-F ℕ ℕ ℕ ℕ ℕ ℕ ℕ ℕ → ℕ
target_step (TargetExpr-F.TargetExpr::Name b) = 1
target_step (TargetExpr-F.TargetExpr::Index m n) = max m n + 1
target_step (TargetExpr-F.TargetExpr::Tuple ns) = deepest ns + 1
target_step (TargetExpr-F.TargetExpr::List ns) = deepest ns + 1

-- a name, a literal and `lambda` have depth 1; any other expression is 1 deeper than the deepest in it
abbrev pub expr_step : Expr-F ℕ ℕ ℕ ℕ ℕ ℕ ℕ ℕ → ℕ
expr_step (Expr-F.Expr::Name b) = 1
expr_step (Expr-F.Int b) = 1
expr_step (Expr-F.String b) = 1
expr_step (Expr-F.Expr::List ns) = deepest ns + 1
expr_step (Expr-F.Expr::Tuple ns) = deepest ns + 1
expr_step (Expr-F.Dict ns) = deepest ns + 1
expr_step (Expr-F.ListComprehension m ns own) = max m (deepest ns) + 1
expr_step (Expr-F.DictComprehension m ns own) = max m (deepest ns) + 1
expr_step (Expr-F.Primary m ns) = max m (deepest ns) + 1
expr_step (Expr-F.Unary os n) = n + 1
expr_step (Expr-F.Binary m ns) = max m (deepest ns) + 1
expr_step (Expr-F.Compare m o n) = max m n + 1
expr_step (Expr-F.Conditional ms n) = max (deepest ms) n + 1
expr_step Expr-F.Lambda = 1

-- the depth of an expression, from 1
abbrev pub expr_depth : Expr → ℕ
expr_depth = fold-Expr ℕ ℕ ℕ ℕ ℕ ℕ ℕ ℕ argument_step clause_step expr_step suffix_step target_step choice_step operation_step pair_step

-- the depth of what is assigned to, from 1
abbrev pub target_depth : TargetExpr → ℕ
target_depth = fold-TargetExpr ℕ ℕ ℕ ℕ ℕ ℕ ℕ ℕ argument_step clause_step expr_step suffix_step target_step choice_step operation_step pair_step

-- of what is no expression itself: the depth of the deepest in it

-- the depth of an argument's value
abbrev pub argument_depth : Argument → ℕ
argument_depth = fold-Argument ℕ ℕ ℕ ℕ ℕ ℕ ℕ ℕ argument_step clause_step expr_step suffix_step target_step choice_step operation_step pair_step

-- the depth of the deeper of a clause's variable and iterable, or of its condition
abbrev pub clause_depth : Clause → ℕ
clause_depth = fold-Clause ℕ ℕ ℕ ℕ ℕ ℕ ℕ ℕ argument_step clause_step expr_step suffix_step target_step choice_step operation_step pair_step

-- the depth of the deepest argument, index or part of a slice; 0 without one
abbrev pub suffix_depth : Suffix → ℕ
suffix_depth = fold-Suffix ℕ ℕ ℕ ℕ ℕ ℕ ℕ ℕ argument_step clause_step expr_step suffix_step target_step choice_step operation_step pair_step

-- the depth of the deeper of the value and the condition of `value if condition else`
abbrev pub choice_depth : Choice → ℕ
choice_depth = fold-Choice ℕ ℕ ℕ ℕ ℕ ℕ ℕ ℕ argument_step clause_step expr_step suffix_step target_step choice_step operation_step pair_step

-- the depth of an operator's right operand
abbrev pub operation_depth : Operation → ℕ
operation_depth = fold-Operation ℕ ℕ ℕ ℕ ℕ ℕ ℕ ℕ argument_step clause_step expr_step suffix_step target_step choice_step operation_step pair_step

-- the depth of the deeper of an entry's key and value
abbrev pub pair_depth : Pair → ℕ
pair_depth = fold-Pair ℕ ℕ ℕ ℕ ℕ ℕ ℕ ℕ argument_step clause_step expr_step suffix_step target_step choice_step operation_step pair_step

-- ---- statements

-- the depth of a parameter's default; 0 without one
abbrev pub parameter_depth : Parameter → ℕ
parameter_depth (p.Default n x) = expr_depth x
parameter_depth _ = 0

-- the depth of the deepest expression or target of a small statement; 0 where it has none, as for `load` and `pass`
abbrev pub kind_depth : SmallKind → ℕ
kind_depth (small.Expr x) = expr_depth x
kind_depth (small.Assign t x) = max (target_depth t) (expr_depth x)
kind_depth (small.Augment t o x) = max (target_depth t) (expr_depth x)
kind_depth (small.Return (Some x)) = expr_depth x
kind_depth _ = 0

-- the depth of the deepest expression or target of a small statement, whatever its line
abbrev pub small_depth : SmallStmt → ℕ
small_depth x = kind_depth x.kind

-- a branch of `if` is as deep as its condition, or as the deepest statement of its block where that is deeper
abbrev pub branch_step : Branch-F ℕ ℕ → ℕ
branch_step x = max (expr_depth x.condition) (deepest x.block)

-- a statement is 1 deeper than the deepest expression, target, default and statement in it
abbrev pub stmt_step : Stmt-F ℕ ℕ → ℕ
stmt_step (Stmt-F.Simple xs) = deepest (map small_depth xs) + 1
stmt_step (Stmt-F.If ms ns) = max (deepest ms) (deepest ns) + 1
stmt_step (Stmt-F.For v x ns) = max (target_depth v) (max (expr_depth x) (deepest ns)) + 1
stmt_step (Stmt-F.Def n ps ns) = max (deepest (map parameter_depth ps)) (deepest ns) + 1

-- the depth of a statement, from 1
abbrev pub stmt_depth : Stmt → ℕ
stmt_depth = fold-Stmt ℕ ℕ stmt_step branch_step

-- the depth of the deeper of a branch's condition and its block's deepest statement
abbrev pub branch_depth : Branch → ℕ
branch_depth = fold-Branch ℕ ℕ stmt_step branch_step

-- 64 nested brackets and indents, 14 levels of expressions in each, and what is around them
abbrev pub max_depth : ℕ
max_depth = 913
