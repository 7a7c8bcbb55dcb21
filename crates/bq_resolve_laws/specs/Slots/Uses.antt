-- The uses of the names that the blocks of a function hold, in the order of its text, each with its block (Starlark specification, "Name
-- binding and variables"). A block is the function itself or a comprehension in it; they are numbered in the order in which they begin, so
-- that the function is 0. What is assigned to counts as a use.
use Rattle.std.specs.Prelude.{ℕ, zero, suc, ◌+◌, List, [], ◌∷◌, ◌++◌, Option, Some, None, if◌then◌else◌}
use Rattle.bq_parse_grammar.specs.declared.tree.Argument.TheOpen.{Expr-F, Suffix-F, Argument-F, Clause-F, TargetExpr-F}
use Rattle.bq_parse_grammar.specs.declared.tree.Argument.{Argument, out-Argument}
use Rattle.bq_parse_grammar.specs.declared.tree.Branch.{Branch, out-Branch}
use Rattle.bq_parse_grammar.specs.declared.tree.Choice.{Choice, out-Choice}
use Rattle.bq_parse_grammar.specs.declared.tree.Clause.{Clause, out-Clause}
use Rattle.bq_parse_grammar.specs.declared.tree.Expr.{Expr, out-Expr}
use Rattle.bq_parse_grammar.specs.declared.tree.Operation.{Operation, out-Operation}
use Rattle.bq_parse_grammar.specs.declared.tree.Pair.{Pair, out-Pair}
use Rattle.bq_parse_grammar.specs.declared.tree.SmallKind.{SmallKind}
use Rattle.bq_parse_grammar.specs.declared.tree.SmallKind.TheVariants as small
use Rattle.bq_parse_grammar.specs.declared.tree.SmallStmt.{SmallStmt}
use Rattle.bq_parse_grammar.specs.declared.tree.Stmt.{Stmt, out-Stmt}
use Rattle.bq_parse_grammar.specs.declared.tree.Stmt.TheOpen.{Stmt-F}
use Rattle.bq_parse_grammar.specs.declared.tree.Suffix.{Suffix, out-Suffix}
use Rattle.bq_parse_grammar.specs.declared.tree.TargetExpr.{TargetExpr, out-TargetExpr}
use Rattle.bq_parse_grammar.specs.Targets.{ExprLayer, SuffixLayer}
use Rattle.bq_resolve_scope.specs.Names.{Name, TargetLayer, ClauseLayer, max_layers, has, comprehension_names}

-- a use: the number of the block that holds the name, and the name
pub record Use : Type 0 where
  pub block : ℕ
  pub name : Name

-- a block with its number, and the names that it holds
pub record Block : Type 0 where
  pub number : ℕ
  pub names : List Name

-- the use of a name among these blocks, innermost first: of the innermost that holds it; another name is none of the function's
unfoldable pub use_among : List Block → Name → List Use
use_among [] name = []
use_among (b ∷ bs) name = if has b.names name then record { block = b.number; name = name } ∷ [] else use_among bs name

-- the uses of a part of the function, given how many blocks have begun before it, and how many have begun after it
abbrev pub Part : Type 0
Part = ℕ → List Use × ℕ

-- a part without uses, in which no block begins
abbrev pub nothing : Part
nothing = λ k. ([], k)

-- one part and then another: their uses in a row, and the blocks that have begun after both
abbrev pub both : Part → Part → Part
both a b = λ k. ((a k).0 ++ (b (a k).1).0, (b (a k).1).1)

-- one part for each of these, in their order
abbrev pub all : {A : Type 0} → (A → Part) → List A → Part
all one [] = nothing
all one (x ∷ xs) = both (one x) (all one xs)

-- the part of what may be missing; nothing where it is
abbrev pub optional : {A : Type 0} → (A → Part) → Option A → Part
optional one None = nothing
optional one (Some x) = one x

-- the use of a name among these blocks, innermost first; no block begins with it
abbrev pub name_use : List Block → Name → Part
name_use blocks name = λ k. (use_among blocks name, k)

module _ (visit : List Block → Expr → Part) where
  abbrev pub target_by : (TargetExpr → Part) → List Block → TargetLayer → Part
  target_by inner blocks (TargetExpr-F.TargetExpr::Name n) = name_use blocks n.name
  target_by inner blocks (TargetExpr-F.TargetExpr::Index x i) = both (visit blocks x) (visit blocks i)
  target_by inner blocks (TargetExpr-F.TargetExpr::Tuple ts) = all inner ts
  target_by inner blocks (TargetExpr-F.TargetExpr::List ts) = all inner ts

  unfoldable pub target_to : ℕ → List Block → TargetExpr → Part
  target_to zero blocks t = nothing
  target_to (suc layers) blocks t = target_by (target_to layers blocks) blocks (out-TargetExpr t)

  abbrev pub pair : List Block → Pair → Part
  pair blocks p = both (visit blocks (out-Pair p).key) (visit blocks (out-Pair p).value)

  abbrev pub operation : List Block → Operation → Part
  operation blocks o = visit blocks (out-Operation o).operand

  abbrev pub choice : List Block → Choice → Part
  choice blocks o = both (visit blocks (out-Choice o).value) (visit blocks (out-Choice o).condition)

  abbrev pub argument_by : List Block → Argument-F Argument Clause Expr Suffix TargetExpr Choice Operation Pair → Part
  argument_by blocks (Argument-F.Positional x) = visit blocks x
  argument_by blocks (Argument-F.Named name x) = visit blocks x
  argument_by blocks (Argument-F.Star x) = visit blocks x
  argument_by blocks (Argument-F.StarStar x) = visit blocks x

  abbrev pub arguments : List Block → List Argument → Part
  arguments blocks xs = all (λ x. argument_by blocks (out-Argument x)) xs

  abbrev pub suffix_by : List Block → SuffixLayer → Part
  suffix_by blocks (Suffix-F.Call xs) = arguments blocks xs
  suffix_by blocks (Suffix-F.Method m xs) = arguments blocks xs
  suffix_by blocks (Suffix-F.Attribute m) = nothing
  suffix_by blocks (Suffix-F.Suffix::Index i) = visit blocks i
  suffix_by blocks (Suffix-F.Slice i j k) = both (optional (visit blocks) i) (both (optional (visit blocks) j) (optional (visit blocks) k))

  abbrev pub suffixes : List Block → List Suffix → Part
  suffixes blocks ss = all (λ s. suffix_by blocks (out-Suffix s)) ss

  -- an iterable stands among `round`, all else of a clause among `blocks`
  abbrev pub clause_by : List Block → List Block → ClauseLayer → Part
  clause_by round blocks (Clause-F.For t x) = both (target_to max_layers blocks t) (visit round x)
  clause_by round blocks (Clause-F.If x) = visit blocks x

  -- the first iterable lies outside the comprehension, all others inside it
  abbrev pub clauses : List Block → List Block → List Clause → Part
  clauses round blocks [] = nothing
  clauses round blocks (x ∷ xs) = both (clause_by round blocks (out-Clause x)) (all (λ z. clause_by blocks blocks (out-Clause z)) xs)

  abbrev pub in_block : (List Block → Part) → Block → List Block → List Clause → Part
  in_block element block blocks xs = both (element (block ∷ blocks)) (clauses blocks (block ∷ blocks) xs)

  -- a comprehension is the next block
  abbrev pub comprehension : (List Block → Part) → List Block → List Clause → Part
  comprehension element blocks xs = λ k. in_block element (record { number = k; names = comprehension_names xs }) blocks xs (k + 1)

  abbrev pub expr_by : List Block → ExprLayer → Part
  expr_by blocks (Expr-F.Expr::Name n) = name_use blocks n.name
  expr_by blocks (Expr-F.Int i) = nothing
  expr_by blocks (Expr-F.String s) = nothing
  expr_by blocks (Expr-F.Expr::List xs) = all (visit blocks) xs
  expr_by blocks (Expr-F.Expr::Tuple xs) = all (visit blocks) xs
  expr_by blocks (Expr-F.Dict ps) = all (pair blocks) ps
  expr_by blocks (Expr-F.ListComprehension x xs own) = comprehension (λ bs. visit bs x) blocks xs
  expr_by blocks (Expr-F.DictComprehension p xs own) = comprehension (λ bs. pair bs p) blocks xs
  expr_by blocks (Expr-F.Primary x ss) = both (visit blocks x) (suffixes blocks ss)
  expr_by blocks (Expr-F.Unary os x) = visit blocks x
  expr_by blocks (Expr-F.Binary x os) = both (visit blocks x) (all (operation blocks) os)
  expr_by blocks (Expr-F.Compare x o z) = both (visit blocks x) (visit blocks z)
  expr_by blocks (Expr-F.Conditional xs z) = both (all (choice blocks) xs) (visit blocks z)
  expr_by blocks Expr-F.Lambda = nothing

-- an expression that is at most this many layers deep; no tree that is parsed holds a deeper one
unfoldable pub expr_to : ℕ → List Block → Expr → Part
expr_to zero blocks x = nothing
expr_to (suc layers) blocks x = expr_by (expr_to layers) blocks (out-Expr x)

-- the uses of an expression among these blocks, innermost first
abbrev pub expr : List Block → Expr → Part
expr blocks x = expr_to max_layers blocks x

-- the uses of a target of an assignment among these blocks, innermost first
abbrev pub target : List Block → TargetExpr → Part
target blocks t = target_to (expr_to max_layers) max_layers blocks t

-- ---- statements of a function

-- the uses of a small statement, those of its target before those of its value; none in a `load`
abbrev pub small_by : List Block → SmallKind → Part
small_by blocks (small.Expr x) = expr blocks x
small_by blocks (small.Assign t x) = both (target blocks t) (expr blocks x)
small_by blocks (small.Augment t o x) = both (target blocks t) (expr blocks x)
small_by blocks (small.Return x) = optional (expr blocks) x
small_by blocks small.Break = nothing
small_by blocks small.Continue = nothing
small_by blocks small.Pass = nothing
small_by blocks (small.Load l) = nothing

-- the uses of a small statement, whatever its line
abbrev pub small_stmt : List Block → SmallStmt → Part
small_stmt blocks x = small_by blocks x.kind

-- the uses of a condition, and then those of its block's statements, which `inner` gives
abbrev pub branch : (Stmt → Part) → List Block → Branch → Part
branch inner blocks b = both (expr blocks (out-Branch b).condition) (all inner (out-Branch b).block)

-- no `def` stands in a `def`
abbrev pub stmt_by : (Stmt → Part) → List Block → Stmt-F Stmt Branch → Part
stmt_by inner blocks (Stmt-F.Simple xs) = all (small_stmt blocks) xs
stmt_by inner blocks (Stmt-F.If bs zs) = both (all (branch inner blocks) bs) (all inner zs)
stmt_by inner blocks (Stmt-F.For t x body) = both (target blocks t) (both (expr blocks x) (all inner body))
stmt_by inner blocks (Stmt-F.Def n ps body) = nothing

-- the uses of a statement that is at most this many layers deep; none of a deeper one
unfoldable pub stmt_to : ℕ → List Block → Stmt → Part
stmt_to zero blocks x = nothing
stmt_to (suc layers) blocks x = stmt_by (stmt_to layers blocks) blocks (out-Stmt x)

-- ---- functions

-- the function that holds these names is the first block
abbrev pub own_block : List Name → Block
own_block names = record { number = 0; names = names }

-- the uses in the statements of a function that holds these names
unfoldable pub body_uses : List Name → List Stmt → List Use
body_uses names body = (all (stmt_to max_layers (own_block names ∷ [])) body 1).0
