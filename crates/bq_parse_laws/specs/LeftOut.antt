-- How many nodes of a tree the language leaves out: `lambda`, `/` and `/=`, and `.name` without a call; in a BUILD file also arguments
-- with a star.
use Rattle.std.specs.Prelude.{ℕ, ◌+◌, Bool, true, false, ◌||◌, ◌&&◌, not, List, [], ◌∷◌, map, Option, Some, None}
use Rattle.std.specs.List.{list_any}
use Rattle.std.specs.Str.{bytes_eq}
use Rattle.bq_source.specs.declared.token.TokenKind.{TokenKind}
use Rattle.bq_source.specs.declared.token.TokenKind.TheVariants as k
use Rattle.bq_parse_grammar.specs.Lexeme.{Lexeme}
use Rattle.bq_parse_grammar.specs.LeftOut.{native, calls_method, kinds}
use Rattle.bq_parse_grammar.specs.declared.tree.Operator.{Operator}
use Rattle.bq_parse_grammar.specs.declared.tree.Operator.TheVariants as o
use Rattle.bq_parse_grammar.specs.declared.tree.Argument.TheFolds.{fold-Argument, fold-Choice, fold-Clause, fold-Expr, fold-Operation, fold-Pair, fold-Suffix, fold-TargetExpr}
use Rattle.bq_parse_grammar.specs.declared.tree.Argument.TheOpen.{Argument-F, Choice-F, Clause-F, Expr-F, Operation-F, Pair-F, Suffix-F, TargetExpr-F}
use Rattle.bq_parse_grammar.specs.declared.tree.Argument.{Argument}
use Rattle.bq_parse_grammar.specs.declared.tree.Choice.{Choice}
use Rattle.bq_parse_grammar.specs.declared.tree.Clause.{Clause}
use Rattle.bq_parse_grammar.specs.declared.tree.Expr.{Expr}
use Rattle.bq_parse_grammar.specs.declared.tree.Operation.{Operation}
use Rattle.bq_parse_grammar.specs.declared.tree.Pair.{Pair}
use Rattle.bq_parse_grammar.specs.declared.tree.Suffix.{Suffix}
use Rattle.bq_parse_grammar.specs.declared.tree.TargetExpr.{TargetExpr}
use Rattle.bq_parse_grammar.specs.declared.tree.Branch.{Branch}
use Rattle.bq_parse_grammar.specs.declared.tree.Parameter.{Parameter}
use Rattle.bq_parse_grammar.specs.declared.tree.Parameter.TheVariants as p
use Rattle.bq_parse_grammar.specs.declared.tree.SmallKind.{SmallKind}
use Rattle.bq_parse_grammar.specs.declared.tree.SmallKind.TheVariants as small
use Rattle.bq_parse_grammar.specs.declared.tree.SmallStmt.{SmallStmt}
use Rattle.bq_parse_grammar.specs.declared.tree.Stmt.{Stmt}
use Rattle.bq_parse_grammar.specs.declared.tree.Stmt.TheFolds.{fold-Branch, fold-Stmt}
use Rattle.bq_parse_grammar.specs.declared.tree.Stmt.TheOpen.{Branch-F, Stmt-F}

-- the sum of these numbers; 0 where there are none
abbrev pub sum_of : List ℕ → ℕ
sum_of [] = 0
sum_of (n ∷ ns) = n + sum_of ns

-- the number of an expression that may be missing; 0 where it is
abbrev pub optional_count : Option ℕ → ℕ
optional_count None = 0
optional_count (Some n) = n

-- 1 for the operator `/`, else 0
abbrev pub division : Operator → ℕ
division o.Divide = 1
division _ = 0

-- an argument with a star, in a BUILD file or not
abbrev pub star : Bool → ℕ
star true = 1
star false = 0

-- ---- one node, with the number of each child in its place

-- an argument has its value's number, and in a BUILD file 1 more where it has a star
abbrev pub argument_left : Bool → Argument-F ℕ ℕ ℕ ℕ ℕ ℕ ℕ ℕ → ℕ
argument_left build (Argument-F.Positional n) = n
argument_left build (Argument-F.Named b n) = n
argument_left build (Argument-F.Star n) = star build + n
argument_left build (Argument-F.StarStar n) = star build + n

-- a `for` has the sum of its variable's and its iterable's number, an `if` its condition's
abbrev pub clause_left : Clause-F ℕ ℕ ℕ ℕ ℕ ℕ ℕ ℕ → ℕ
clause_left (Clause-F.For m n) = m + n
clause_left (Clause-F.If n) = n

-- `value if condition else` has the sum of the two
abbrev pub choice_left : Choice-F ℕ ℕ ℕ ℕ ℕ ℕ ℕ ℕ → ℕ
choice_left x = x.value + x.condition

-- an operator with its right operand has the operand's number, and 1 more for `/`
abbrev pub operation_left : Operation-F ℕ ℕ ℕ ℕ ℕ ℕ ℕ ℕ → ℕ
operation_left x = division x.operator + x.operand

-- an entry of a dict has the sum of its key's and its value's number
abbrev pub pair_left : Pair-F ℕ ℕ ℕ ℕ ℕ ℕ ℕ ℕ → ℕ
pair_left x = x.key + x.value

-- `.name` without a call has 1; a call, a method, an index and a slice have the sum of what is in them
abbrev pub suffix_left : Suffix-F ℕ ℕ ℕ ℕ ℕ ℕ ℕ ℕ → ℕ
suffix_left (Suffix-F.Call ns) = sum_of ns
suffix_left (Suffix-F.Method b ns) = sum_of ns
suffix_left (Suffix-F.Attribute b) = 1
suffix_left (Suffix-F.Suffix::Index n) = n
suffix_left (Suffix-F.Slice l m n) = optional_count l + (optional_count m + optional_count n)

-- what is assigned to has the sum of all in it; a name has 0
abbrev pub target_left : TargetExpr-F ℕ ℕ ℕ ℕ ℕ ℕ ℕ ℕ → ℕ
target_left (TargetExpr-F.TargetExpr::Name b) = 0
target_left (TargetExpr-F.TargetExpr::Index m n) = m + n
target_left (TargetExpr-F.TargetExpr::Tuple ns) = sum_of ns
target_left (TargetExpr-F.TargetExpr::List ns) = sum_of ns

-- an expression has the sum of all in it; a name and a literal have 0, `lambda` has 1
abbrev pub expr_left : Expr-F ℕ ℕ ℕ ℕ ℕ ℕ ℕ ℕ → ℕ
expr_left (Expr-F.Expr::Name b) = 0
expr_left (Expr-F.Int b) = 0
expr_left (Expr-F.String b) = 0
expr_left (Expr-F.Expr::List ns) = sum_of ns
expr_left (Expr-F.Expr::Tuple ns) = sum_of ns
expr_left (Expr-F.Dict ns) = sum_of ns
expr_left (Expr-F.ListComprehension m ns own) = m + sum_of ns
expr_left (Expr-F.DictComprehension m ns own) = m + sum_of ns
expr_left (Expr-F.Primary m ns) = m + sum_of ns
expr_left (Expr-F.Unary os n) = n
expr_left (Expr-F.Binary m ns) = m + sum_of ns
expr_left (Expr-F.Compare m o n) = m + n
expr_left (Expr-F.Conditional ms n) = sum_of ms + n
expr_left Expr-F.Lambda = 1

-- how many nodes of an expression the language leaves out; `build` says whether it is in a BUILD file
abbrev pub expr_count : Bool → Expr → ℕ
expr_count build = fold-Expr ℕ ℕ ℕ ℕ ℕ ℕ ℕ ℕ (argument_left build) clause_left expr_left suffix_left target_left choice_left operation_left pair_left

-- how many nodes are left out in what is assigned to
abbrev pub target_count : Bool → TargetExpr → ℕ
target_count build = fold-TargetExpr ℕ ℕ ℕ ℕ ℕ ℕ ℕ ℕ (argument_left build) clause_left expr_left suffix_left target_left choice_left operation_left pair_left

-- how many nodes are left out in an argument, and 1 more for its star in a BUILD file
abbrev pub argument_count : Bool → Argument → ℕ
argument_count build = fold-Argument ℕ ℕ ℕ ℕ ℕ ℕ ℕ ℕ (argument_left build) clause_left expr_left suffix_left target_left choice_left operation_left pair_left

-- how many nodes are left out in a clause of a comprehension
abbrev pub clause_count : Bool → Clause → ℕ
clause_count build = fold-Clause ℕ ℕ ℕ ℕ ℕ ℕ ℕ ℕ (argument_left build) clause_left expr_left suffix_left target_left choice_left operation_left pair_left

-- how many nodes are left out in a call, a method, `.name`, an index or a slice after an operand; `.name` is one itself
abbrev pub suffix_count : Bool → Suffix → ℕ
suffix_count build = fold-Suffix ℕ ℕ ℕ ℕ ℕ ℕ ℕ ℕ (argument_left build) clause_left expr_left suffix_left target_left choice_left operation_left pair_left

-- how many nodes are left out in the value and the condition of `value if condition else`
abbrev pub choice_count : Bool → Choice → ℕ
choice_count build = fold-Choice ℕ ℕ ℕ ℕ ℕ ℕ ℕ ℕ (argument_left build) clause_left expr_left suffix_left target_left choice_left operation_left pair_left

-- how many nodes are left out in an operator and its right operand
abbrev pub operation_count : Bool → Operation → ℕ
operation_count build = fold-Operation ℕ ℕ ℕ ℕ ℕ ℕ ℕ ℕ (argument_left build) clause_left expr_left suffix_left target_left choice_left operation_left pair_left

-- how many nodes are left out in a key and its value in a dict
abbrev pub pair_count : Bool → Pair → ℕ
pair_count build = fold-Pair ℕ ℕ ℕ ℕ ℕ ℕ ℕ ℕ (argument_left build) clause_left expr_left suffix_left target_left choice_left operation_left pair_left

-- ---- statements

-- how many nodes are left out in a parameter's default; 0 without one
abbrev pub parameter_count : Bool → Parameter → ℕ
parameter_count build (p.Default n x) = expr_count build x
parameter_count build _ = 0

-- how many nodes are left out in a small statement, of which `/=` is one itself
abbrev pub kind_count : Bool → SmallKind → ℕ
kind_count build (small.Expr x) = expr_count build x
kind_count build (small.Assign t x) = target_count build t + expr_count build x
kind_count build (small.Augment t o x) = target_count build t + (division o + expr_count build x)
kind_count build (small.Return (Some x)) = expr_count build x
kind_count build _ = 0

-- how many nodes are left out in a small statement, whatever its line
abbrev pub small_count : Bool → SmallStmt → ℕ
small_count build x = kind_count build x.kind

-- a branch of `if` has the sum of its condition's number and those of its block's statements
abbrev pub branch_left : Bool → Branch-F ℕ ℕ → ℕ
branch_left build x = expr_count build x.condition + sum_of x.block

-- a statement has the sum of the expressions, targets, defaults and statements in it
abbrev pub stmt_left : Bool → Stmt-F ℕ ℕ → ℕ
stmt_left build (Stmt-F.Simple xs) = sum_of (map (small_count build) xs)
stmt_left build (Stmt-F.If ms ns) = sum_of ms + sum_of ns
stmt_left build (Stmt-F.For v x ns) = target_count build v + (expr_count build x + sum_of ns)
stmt_left build (Stmt-F.Def n ps ns) = sum_of (map (parameter_count build) ps) + sum_of ns

-- the nodes of a statement that the language leaves out, and in a BUILD file the arguments with a star
abbrev pub stmt_count : Bool → Stmt → ℕ
stmt_count build = fold-Stmt ℕ ℕ (stmt_left build) (branch_left build)

-- how many nodes of a branch of `if` the language leaves out, in a BUILD file also arguments with a star
abbrev pub branch_count : Bool → Branch → ℕ
branch_count build = fold-Branch ℕ ℕ (stmt_left build) (branch_left build)

-- ---- a `def` in a `def`

-- what each block gives, where it stands in a `def` and where it doesn't
abbrev pub branch_nested : Branch-F (Bool → Bool) (Bool → Bool) → Bool → Bool
branch_nested x inside = list_any (λ f. f inside) x.block

-- what a statement gives, by its blocks: it is a `def` that stands in a `def`, or there is one in its blocks
abbrev pub stmt_nested : Stmt-F (Bool → Bool) (Bool → Bool) → Bool → Bool
stmt_nested (Stmt-F.Simple xs) inside = false
stmt_nested (Stmt-F.If fs gs) inside = list_any (λ f. f inside) fs || list_any (λ f. f inside) gs
stmt_nested (Stmt-F.For v x fs) inside = list_any (λ f. f inside) fs
stmt_nested (Stmt-F.Def n ps fs) inside = inside || list_any (λ f. f true) fs

-- the statement, inside a `def` or not, makes a `def` stand in a `def`
abbrev pub has_nested : Stmt → Bool → Bool
has_nested = fold-Stmt (Bool → Bool) (Bool → Bool) stmt_nested branch_nested

-- the block of the branch, inside a `def` or not, makes a `def` stand in a `def`
abbrev pub branch_has_nested : Branch → Bool → Bool
branch_has_nested = fold-Branch (Bool → Bool) (Bool → Bool) stmt_nested branch_nested

-- ---- what the tokens alone tell

-- the name `native`, but before `.name(`
abbrev pub lone_native_by : TokenKind → Lexeme → List Lexeme → Bool
lone_native_by k.Identifier t ts = bytes_eq t.spelling native && not (calls_method (kinds ts))
lone_native_by _ t ts = false

-- among the tokens is a name `native` that is not before `.name(`
abbrev pub lone_native : List Lexeme → Bool
lone_native [] = false
lone_native (t ∷ ts) = lone_native_by t.kind t ts || lone_native ts
