-- What each node of a tree writes: tokens and smaller nodes, in the order of the text. Nothing here is recursive, and nothing knows of
-- levels of precedence: a node says its own words and names its children.
use Rattle.std.specs.Prelude.{ℕ, ℤ, Bool, true, false, List, [], ◌∷◌, Option, Some, None}
use Rattle.bq_source.specs.declared.token.TokenKind.{TokenKind}
use Rattle.bq_source.specs.declared.token.TokenKind.TheVariants as k
use Rattle.bq_parse_grammar.specs.declared.tree.Identifier.{Identifier}
use Rattle.bq_parse_grammar.specs.declared.tree.Operator.{Operator}
use Rattle.bq_parse_grammar.specs.declared.tree.Operator.TheVariants as o
use Rattle.bq_parse_grammar.specs.declared.tree.UnaryOperator.{UnaryOperator}
use Rattle.bq_parse_grammar.specs.declared.tree.UnaryOperator.TheVariants as u
use Rattle.bq_parse_grammar.specs.declared.tree.Comparison.{Comparison}
use Rattle.bq_parse_grammar.specs.declared.tree.Comparison.TheVariants as c
use Rattle.bq_parse_grammar.specs.declared.tree.Argument.TheOpen.{Argument-F, Clause-F, Expr-F, Suffix-F, TargetExpr-F}
use Rattle.bq_parse_grammar.specs.declared.tree.Argument.{Argument, out-Argument}
use Rattle.bq_parse_grammar.specs.declared.tree.Choice.{Choice, out-Choice}
use Rattle.bq_parse_grammar.specs.declared.tree.Clause.{Clause, out-Clause}
use Rattle.bq_parse_grammar.specs.declared.tree.Expr.{Expr, out-Expr}
use Rattle.bq_parse_grammar.specs.declared.tree.Operation.{Operation, out-Operation}
use Rattle.bq_parse_grammar.specs.declared.tree.Pair.{Pair, out-Pair}
use Rattle.bq_parse_grammar.specs.declared.tree.Suffix.{Suffix, out-Suffix}
use Rattle.bq_parse_grammar.specs.declared.tree.TargetExpr.{TargetExpr, out-TargetExpr}
use Rattle.bq_parse_grammar.specs.declared.tree.Parameter.{Parameter}
use Rattle.bq_parse_grammar.specs.declared.tree.Parameter.TheVariants as p
use Rattle.bq_parse_grammar.specs.declared.tree.SmallKind.{SmallKind}
use Rattle.bq_parse_grammar.specs.declared.tree.SmallKind.TheVariants as small
use Rattle.bq_parse_grammar.specs.declared.tree.SmallStmt.{SmallStmt}
use Rattle.bq_parse_grammar.specs.declared.tree.LoadClause.{LoadClause}
use Rattle.bq_parse_grammar.specs.declared.tree.Branch.{Branch, out-Branch}
use Rattle.bq_parse_grammar.specs.declared.tree.Stmt.{Stmt, out-Stmt}
use Rattle.bq_parse_grammar.specs.declared.tree.Stmt.TheOpen.{Stmt-F}

-- a token, or a node that is still to be written
pub data Part : Type 0 where
  token : TokenKind → Part
  -- a token, or nothing
  maybe : TokenKind → Part
  -- two tokens
  both : TokenKind → TokenKind → Part
  -- `.name` before a `(`, and before no `(`
  method : Identifier → Part
  attribute : Identifier → Part
  -- the word that names this, on its line; and a word of which the tree has the bytes alone
  word : Identifier → Part
  spelled : List ℕ → Part
  -- the literals that stand for this
  number : ℤ → Part
  text : List ℕ → Part
  -- whatever comes
  anything : Part
  expr : Expr → Part
  -- an expression where a tuple needs no parentheses
  open_expr : Expr → Part
  pair : Pair → Part
  operation : Operation → Part
  choice : Choice → Part
  suffix : Suffix → Part
  -- the first argument, with the `(` before it, or a further one, with the comma before it
  argument : Bool → Argument → Part
  clause : Clause → Part
  target : TargetExpr → Part
  -- a target where a tuple needs no parentheses
  open_target : TargetExpr → Part
  parameter : Parameter → Part
  load_clause : LoadClause → Part
  small_stmt : SmallStmt → Part
  branch : Branch → Part
  elif : Branch → Part
  suite : List Stmt → Part
  stmt : Stmt → Part

-- each function says what is written before `more`

-- one after another
abbrev pub row : {A : Type 0} → (A → Part) → List A → List Part → List Part
row f [] more = more
row f (x ∷ xs) more = f x ∷ row f xs more

-- with this token between them, and one at the end where there may be one
abbrev pub listed : {A : Type 0} → TokenKind → (A → Part) → List A → List Part → List Part
listed q f [] more = more
listed q f (x ∷ []) more = f x ∷ maybe q ∷ more
listed q f (x ∷ y ∷ ys) more = f x ∷ token q ∷ listed q f (y ∷ ys) more

-- with commas between them
abbrev pub commas : {A : Type 0} → (A → Part) → List A → List Part → List Part
commas f [] more = more
commas f (x ∷ xs) more = token k.Comma ∷ f x ∷ commas f xs more

-- ---- operators

-- the token of a binary operator
abbrev pub operator_kind : Operator → TokenKind
operator_kind o.Multiply = k.Star
operator_kind o.FloorDivide = k.SlashSlash
operator_kind o.Modulo = k.Percent
operator_kind o.Divide = k.Slash
operator_kind o.Add = k.Plus
operator_kind o.Subtract = k.Minus
operator_kind o.ShiftLeft = k.LessLess
operator_kind o.ShiftRight = k.GreaterGreater
operator_kind o.BitAnd = k.Ampersand
operator_kind o.BitXor = k.Caret
operator_kind o.BitOr = k.Pipe
operator_kind o.And = k.And
operator_kind o.Or = k.Or

-- the token of a unary operator: `+`, `-`, `~` or `not`
abbrev pub unary_kind : UnaryOperator → TokenKind
unary_kind u.Plus = k.Plus
unary_kind u.Minus = k.Minus
unary_kind u.Invert = k.Tilde
unary_kind u.Not = k.Not

-- a unary operator, as the one token that it is
abbrev pub unary : UnaryOperator → Part
unary x = token (unary_kind x)

-- the token of a comparison, or the two of `not in`
abbrev pub comparison : Comparison → List Part → List Part
comparison c.Equal more = token k.EqualEqual ∷ more
comparison c.NotEqual more = token k.NotEqual ∷ more
comparison c.Less more = token k.Less ∷ more
comparison c.Greater more = token k.Greater ∷ more
comparison c.LessEqual more = token k.LessEqual ∷ more
comparison c.GreaterEqual more = token k.GreaterEqual ∷ more
comparison c.In more = token k.In ∷ more
comparison c.NotIn more = token k.Not ∷ token k.In ∷ more

-- `and` and `or` assign nothing
abbrev pub assignment_kind : Operator → Option TokenKind
assignment_kind o.Multiply = Some k.StarAssign
assignment_kind o.FloorDivide = Some k.SlashSlashAssign
assignment_kind o.Modulo = Some k.PercentAssign
assignment_kind o.Divide = Some k.SlashAssign
assignment_kind o.Add = Some k.PlusAssign
assignment_kind o.Subtract = Some k.MinusAssign
assignment_kind o.ShiftLeft = Some k.LessLessAssign
assignment_kind o.ShiftRight = Some k.GreaterGreaterAssign
assignment_kind o.BitAnd = Some k.AmpersandAssign
assignment_kind o.BitXor = Some k.CaretAssign
assignment_kind o.BitOr = Some k.PipeAssign
assignment_kind o.And = None
assignment_kind o.Or = None

-- the token, or nothing where there is none
abbrev pub token_of : Option TokenKind → List Part → List Part
token_of None more = more
token_of (Some q) more = token q ∷ more

-- ---- expressions

-- an expression as one node, with its children as whole trees
abbrev pub ExprLayer : Type 0
ExprLayer = Expr-F Argument Clause Expr Suffix TargetExpr Choice Operation Pair

-- an expression by its node: its own tokens, and its children
abbrev pub expr_parts_by : ExprLayer → List Part → List Part
expr_parts_by (Expr-F.Expr::Name n) more = word n ∷ more
expr_parts_by (Expr-F.Int n) more = number n ∷ more
expr_parts_by (Expr-F.String b) more = text b ∷ more
expr_parts_by (Expr-F.Expr::List xs) more = token k.LeftBracket ∷ listed k.Comma expr xs (token k.RightBracket ∷ more)
expr_parts_by (Expr-F.Expr::Tuple []) more = token k.LeftParen ∷ token k.RightParen ∷ more
expr_parts_by (Expr-F.Expr::Tuple (x ∷ xs)) more = token k.LeftParen ∷ expr x ∷ token k.Comma ∷ listed k.Comma expr xs (token k.RightParen ∷ more)
expr_parts_by (Expr-F.Dict ps) more = token k.LeftBrace ∷ listed k.Comma pair ps (token k.RightBrace ∷ more)
expr_parts_by (Expr-F.ListComprehension x cs own) more = token k.LeftBracket ∷ expr x ∷ row clause cs (token k.RightBracket ∷ more)
expr_parts_by (Expr-F.DictComprehension p cs own) more = token k.LeftBrace ∷ pair p ∷ row clause cs (token k.RightBrace ∷ more)
-- an operand to which nothing is done stands in parentheses
expr_parts_by (Expr-F.Primary x []) more = token k.LeftParen ∷ expr x ∷ token k.RightParen ∷ more
expr_parts_by (Expr-F.Primary x (y ∷ ys)) more = expr x ∷ row suffix (y ∷ ys) more
expr_parts_by (Expr-F.Unary os x) more = row unary os (expr x ∷ more)
expr_parts_by (Expr-F.Binary x os) more = expr x ∷ row operation os more
expr_parts_by (Expr-F.Compare x o y) more = expr x ∷ comparison o (expr y ∷ more)
expr_parts_by (Expr-F.Conditional cs x) more = row choice cs (expr x ∷ more)
-- nothing is said of the tokens after a `lambda`
expr_parts_by Expr-F.Lambda more = token k.Lambda ∷ anything ∷ []

-- an expression as one node writes it
abbrev pub expr_parts : Expr → List Part → List Part
expr_parts x more = expr_parts_by (out-Expr x) more

-- `key: value` of a dict
abbrev pub pair_parts : Pair → List Part → List Part
pair_parts x more = expr (out-Pair x).key ∷ token k.Colon ∷ expr (out-Pair x).value ∷ more

-- a binary operator and its right operand
abbrev pub operation_parts : Operation → List Part → List Part
operation_parts x more = token (operator_kind (out-Operation x).operator) ∷ expr (out-Operation x).operand ∷ more

-- `value if condition else`, the first part of a conditional
abbrev pub choice_parts : Choice → List Part → List Part
choice_parts x more = expr (out-Choice x).value ∷ token k.If ∷ expr (out-Choice x).condition ∷ token k.Else ∷ more

-- what is done to an operand, as one node: a call, a method, an attribute, an index or a slice
abbrev pub SuffixLayer : Type 0
SuffixLayer = Suffix-F Argument Clause Expr Suffix TargetExpr Choice Operation Pair

-- the expression, or nothing where there is none
abbrev pub optional_expr : Option Expr → List Part → List Part
optional_expr None more = more
optional_expr (Some x) more = expr x ∷ more

-- `:step`; without a step the colon may be left out
abbrev pub step_parts : Option Expr → List Part → List Part
step_parts None more = maybe k.Colon ∷ more
step_parts (Some x) more = token k.Colon ∷ expr x ∷ more

-- the arguments in parentheses, after the last of which there may be a comma; `()` where there are none
abbrev pub arguments : List Argument → List Part → List Part
arguments [] more = token k.LeftParen ∷ token k.RightParen ∷ more
arguments (x ∷ xs) more = argument true x ∷ row (argument false) xs (maybe k.Comma ∷ token k.RightParen ∷ more)

-- what is done to an operand, by its node: `(..)`, `.name(..)`, `.name`, `[index]` or `[from:to:step]`
abbrev pub suffix_parts_by : SuffixLayer → List Part → List Part
suffix_parts_by (Suffix-F.Call xs) more = arguments xs more
suffix_parts_by (Suffix-F.Method n xs) more = method n ∷ arguments xs more
suffix_parts_by (Suffix-F.Attribute n) more = attribute n ∷ more
suffix_parts_by (Suffix-F.Suffix::Index x) more = token k.LeftBracket ∷ open_expr x ∷ token k.RightBracket ∷ more
suffix_parts_by (Suffix-F.Slice x y z) more =
    token k.LeftBracket ∷ optional_expr x (token k.Colon ∷ optional_expr y (step_parts z (token k.RightBracket ∷ more)))

-- what is done to an operand, as one node writes it
abbrev pub suffix_parts : Suffix → List Part → List Part
suffix_parts x more = suffix_parts_by (out-Suffix x) more

-- an argument as one node, with its children as whole trees
abbrev pub ArgumentLayer : Type 0
ArgumentLayer = Argument-F Argument Clause Expr Suffix TargetExpr Choice Operation Pair

-- the token before an argument: `(` before the first, a comma before each further one
abbrev pub opening : Bool → TokenKind
opening true = k.LeftParen
opening false = k.Comma

-- an argument by its node, after its `(` or comma: `value`, `name = value`, `*value` or `**value`
abbrev pub argument_parts_by : Bool → ArgumentLayer → List Part → List Part
argument_parts_by first (Argument-F.Positional x) more = token (opening first) ∷ expr x ∷ more
argument_parts_by first (Argument-F.Named b x) more = token (opening first) ∷ spelled b ∷ token k.Assign ∷ expr x ∷ more
argument_parts_by first (Argument-F.Star x) more = both (opening first) k.Star ∷ expr x ∷ more
argument_parts_by first (Argument-F.StarStar x) more = both (opening first) k.StarStar ∷ expr x ∷ more

-- an argument after its `(` or comma; `first` says which of the two
abbrev pub argument_parts : Bool → Argument → List Part → List Part
argument_parts first x more = argument_parts_by first (out-Argument x) more

-- a clause of a comprehension as one node, with its children as whole trees
abbrev pub ClauseLayer : Type 0
ClauseLayer = Clause-F Argument Clause Expr Suffix TargetExpr Choice Operation Pair

-- a clause by its node: `for variable in expression`, or `if condition`
abbrev pub clause_parts_by : ClauseLayer → List Part → List Part
clause_parts_by (Clause-F.For v x) more = token k.For ∷ open_target v ∷ token k.In ∷ expr x ∷ more
clause_parts_by (Clause-F.If x) more = token k.If ∷ expr x ∷ more

-- a clause of a comprehension, as one node writes it
abbrev pub clause_parts : Clause → List Part → List Part
clause_parts x more = clause_parts_by (out-Clause x) more

-- what is assigned to, as one node, with its children as whole trees
abbrev pub TargetLayer : Type 0
TargetLayer = TargetExpr-F Argument Clause Expr Suffix TargetExpr Choice Operation Pair

-- what is assigned to, by its node: a name, `expression[index]`, or targets in parentheses or in brackets
abbrev pub target_parts_by : TargetLayer → List Part → List Part
target_parts_by (TargetExpr-F.TargetExpr::Name n) more = word n ∷ more
target_parts_by (TargetExpr-F.TargetExpr::Index x i) more = expr x ∷ token k.LeftBracket ∷ open_expr i ∷ token k.RightBracket ∷ more
target_parts_by (TargetExpr-F.TargetExpr::Tuple []) more = token k.LeftParen ∷ token k.RightParen ∷ more
target_parts_by (TargetExpr-F.TargetExpr::Tuple (x ∷ xs)) more = token k.LeftParen ∷ target x ∷ token k.Comma ∷ listed k.Comma target xs (token k.RightParen ∷ more)
target_parts_by (TargetExpr-F.TargetExpr::List xs) more = token k.LeftBracket ∷ listed k.Comma target xs (token k.RightBracket ∷ more)

-- what is assigned to, as one node writes it
abbrev pub target_parts : TargetExpr → List Part → List Part
target_parts x more = target_parts_by (out-TargetExpr x) more

-- ---- statements

-- `name`, `name = default`, `*`, `*name` or `**name`
abbrev pub parameter_parts : Parameter → List Part → List Part
parameter_parts (p.Plain n) more = word n ∷ more
parameter_parts (p.Default n x) more = word n ∷ token k.Assign ∷ expr x ∷ more
parameter_parts p.BareStar more = token k.Star ∷ more
parameter_parts (p.Star n) more = token k.Star ∷ word n ∷ more
parameter_parts (p.StarStar n) more = token k.StarStar ∷ word n ∷ more

-- after the label
abbrev pub load_parts : List LoadClause → List Part → List Part
load_parts [] more = maybe k.Comma ∷ more
load_parts (x ∷ xs) more = token k.Comma ∷ listed k.Comma load_clause (x ∷ xs) more

-- a small statement without its line: an expression, `target = value`, `target += value`, or one that a keyword begins
abbrev pub small_parts : SmallKind → List Part → List Part
small_parts (small.Expr x) more = open_expr x ∷ more
small_parts (small.Assign x v) more = open_target x ∷ token k.Assign ∷ open_expr v ∷ more
small_parts (small.Augment x o v) more = target x ∷ token_of (assignment_kind o) (open_expr v ∷ more)
small_parts (small.Return None) more = token k.Return ∷ more
small_parts (small.Return (Some x)) more = token k.Return ∷ open_expr x ∷ more
small_parts small.Break more = token k.Break ∷ more
small_parts small.Continue more = token k.Continue ∷ more
small_parts small.Pass more = token k.Pass ∷ more
small_parts (small.Load l) more = token k.Load ∷ token k.LeftParen ∷ text l.label ∷ load_parts l.clauses (token k.RightParen ∷ more)

-- a condition, a colon and a block, after `if` or `elif`
abbrev pub branch_parts : Branch → List Part → List Part
branch_parts x more = expr (out-Branch x).condition ∷ token k.Colon ∷ suite (out-Branch x).block ∷ more

-- no block: no `else`
abbrev pub else_parts : List Stmt → List Part → List Part
else_parts [] more = more
else_parts (x ∷ xs) more = token k.Else ∷ token k.Colon ∷ suite (x ∷ xs) ∷ more

-- `if` with the first branch, an `elif` for each further one, and the `else` where there is one
abbrev pub if_parts : List Branch → List Stmt → List Part → List Part
if_parts [] zs more = else_parts zs more
if_parts (x ∷ xs) zs more = token k.If ∷ branch x ∷ row elif xs (else_parts zs more)

-- a statement by its node: small statements with a newline, `if`, `for` or `def`
abbrev pub stmt_parts_by : Stmt-F Stmt Branch → List Part → List Part
stmt_parts_by (Stmt-F.Simple xs) more = listed k.Semicolon small_stmt xs (token k.Newline ∷ more)
stmt_parts_by (Stmt-F.If xs zs) more = if_parts xs zs more
stmt_parts_by (Stmt-F.For v x xs) more = token k.For ∷ open_target v ∷ token k.In ∷ open_expr x ∷ token k.Colon ∷ suite xs ∷ more
stmt_parts_by (Stmt-F.Def n ps xs) more =
    token k.Def ∷ word n ∷ token k.LeftParen ∷ listed k.Comma parameter ps (token k.RightParen ∷ token k.Colon ∷ suite xs ∷ more)

-- a statement, as one node writes it
abbrev pub stmt_parts : Stmt → List Part → List Part
stmt_parts x more = stmt_parts_by (out-Stmt x) more
