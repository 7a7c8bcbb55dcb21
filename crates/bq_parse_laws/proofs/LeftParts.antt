-- How many nodes that are left out stand in parts: those of a node in its parts. Of a dot alone, and of whatever comes after a
-- `lambda`, nothing is known: `high` counts them, so that there are two bounds.
use Rattle.std.proofs.Common.{◌≡◌, ℕ, ◌+◌, Bool, true, false, ◌≤◌, ◌⊎◌, inl, inr, List, [], ◌∷◌, map, Option, Some, None, refl, sym, ap, ◌∙◌, subst, arith}
use Rattle.bq_source.specs.declared.token.TokenKind.{TokenKind}
use Rattle.bq_source.specs.declared.token.TokenKind.TheVariants as k
use Rattle.bq_parse_grammar.specs.declared.tree.Argument.TheOpen.{Argument-F, Clause-F, Expr-F, Suffix-F, TargetExpr-F}
use Rattle.bq_parse_grammar.specs.declared.tree.Argument.{Argument, out-Argument}
use Rattle.bq_parse_grammar.specs.declared.tree.Choice.{Choice}
use Rattle.bq_parse_grammar.specs.declared.tree.Clause.{Clause, out-Clause}
use Rattle.bq_parse_grammar.specs.declared.tree.Expr.{Expr, out-Expr}
use Rattle.bq_parse_grammar.specs.declared.tree.Operation.{Operation, out-Operation}
use Rattle.bq_parse_grammar.specs.declared.tree.Operator.{Operator}
use Rattle.bq_parse_grammar.specs.declared.tree.Operator.TheVariants as o
use Rattle.bq_parse_grammar.specs.declared.tree.UnaryOperator.{UnaryOperator}
use Rattle.bq_parse_grammar.specs.declared.tree.UnaryOperator.TheVariants as u
use Rattle.bq_parse_grammar.specs.declared.tree.Comparison.{Comparison}
use Rattle.bq_parse_grammar.specs.declared.tree.Comparison.TheVariants as c
use Rattle.bq_parse_grammar.specs.declared.tree.Pair.{Pair}
use Rattle.bq_parse_grammar.specs.declared.tree.Suffix.{Suffix, out-Suffix}
use Rattle.bq_parse_grammar.specs.declared.tree.TargetExpr.{TargetExpr, out-TargetExpr}
use Rattle.bq_parse_grammar.specs.declared.tree.Parameter.{Parameter}
use Rattle.bq_parse_grammar.specs.declared.tree.Parameter.TheVariants as p
use Rattle.bq_parse_grammar.specs.declared.tree.SmallKind.{SmallKind}
use Rattle.bq_parse_grammar.specs.declared.tree.SmallKind.TheVariants as small
use Rattle.bq_parse_grammar.specs.declared.tree.LoadClause.{LoadClause}
use Rattle.bq_parse_grammar.specs.declared.tree.Branch.{Branch}
use Rattle.bq_parse_grammar.specs.declared.tree.Stmt.{Stmt, out-Stmt}
use Rattle.bq_parse_grammar.specs.declared.tree.Stmt.TheOpen.{Stmt-F}
use Rattle.bq_parse_grammar.specs.declared.tree.Expr.TheVariants as e
use Rattle.bq_parse_grammar.specs.declared.tree.TargetExpr.TheVariants as t
use Rattle.bq_parse_laws.specs.Parts as parts
use Rattle.bq_parse_laws.specs.Parts.{Part, row, listed, commas, operator_kind, unary, comparison, assignment_kind, token_of, ExprLayer, expr_parts_by, expr_parts, pair_parts, operation_parts, choice_parts, SuffixLayer, optional_expr, step_parts, arguments, suffix_parts_by, suffix_parts, ArgumentLayer, argument_parts_by, argument_parts, ClauseLayer, clause_parts_by, clause_parts, TargetLayer, target_parts_by, target_parts, parameter_parts, load_parts, small_parts, branch_parts, else_parts, if_parts, stmt_parts_by, stmt_parts}
use Rattle.bq_parse_laws.specs.LeftOut.{sum_of, division, star, expr_count, target_count, argument_count, clause_count, suffix_count, choice_count, operation_count, pair_count, parameter_count, kind_count, small_count, stmt_count, branch_count}
use Rattle.bq_parse_laws.proofs.Layers.{out-Tuple, out-target_Tuple}
use Rattle.bq_parse_laws.proofs.LeftLayers as L
use Rattle.bq_parse_laws.proofs.LeftLayers.{expr_by, optional_by, suffix_by, argument_by, clause_by, target_by, stmt_by}

-- what a token alone tells
abbrev pub unknown : Bool → ℕ
unknown true = 1
unknown false = 0

abbrev pub token_count : Bool → TokenKind → ℕ
token_count high k.Lambda = 1
token_count high k.Slash = 1
token_count high k.SlashAssign = 1
token_count high k.Dot = unknown high
token_count high _ = 0

abbrev pub maybe_count : Bool → TokenKind → ℕ
maybe_count high k.Comma = 0
maybe_count high k.Colon = 0
maybe_count high k.Semicolon = 0
maybe_count true _ = 1
maybe_count false _ = 0

abbrev pub both_count : Bool → TokenKind → TokenKind → ℕ
both_count b k.LeftParen k.Star = star b
both_count b k.LeftParen k.StarStar = star b
both_count b k.Comma k.Star = star b
both_count b k.Comma k.StarStar = star b
both_count b _ _ = 0

-- of a `lambda` nothing is known but that it is one
abbrev pub Same : ℕ → ℕ → Type 0
Same m n = (m ≡ n) ⊎ ((1 ≤ m) × (1 ≤ n))

module _ (b high : Bool) where
  abbrev pub part_count : Part → ℕ
  part_count (parts.token q) = token_count high q
  part_count (parts.maybe q) = maybe_count high q
  part_count (parts.both q r) = both_count b q r + (token_count high q + token_count high r)
  part_count (parts.method n) = 0
  part_count (parts.attribute n) = 1
  part_count (parts.word n) = 0
  part_count (parts.spelled s) = 0
  part_count (parts.number n) = 0
  part_count (parts.text s) = 0
  part_count parts.anything = unknown high
  part_count (parts.expr x) = expr_count b x
  part_count (parts.open_expr x) = expr_count b x
  part_count (parts.pair x) = pair_count b x
  part_count (parts.operation x) = operation_count b x
  part_count (parts.choice x) = choice_count b x
  part_count (parts.suffix x) = suffix_count b x
  part_count (parts.argument first x) = argument_count b x
  part_count (parts.clause x) = clause_count b x
  part_count (parts.target x) = target_count b x
  part_count (parts.open_target x) = target_count b x
  part_count (parts.parameter x) = parameter_count b x
  part_count (parts.load_clause x) = 0
  part_count (parts.small_stmt x) = small_count b x
  part_count (parts.branch x) = branch_count b x
  part_count (parts.elif x) = branch_count b x
  part_count (parts.suite xs) = sum_of (map (stmt_count b) xs)
  part_count (parts.stmt x) = stmt_count b x

  abbrev pub total : List Part → ℕ
  total [] = 0
  total (x ∷ xs) = part_count x + total xs

  module _ {A : Type 0} (f : A → Part) (g : A → ℕ) (same : (x : A) → part_count (f x) ≡ g x) where
    pub row_total : (xs : List A) (more : List Part) → total (row f xs more) ≡ sum_of (map g xs) + total more
    row_total [] more = omega arith
    row_total (x ∷ xs) more = let e = same x in let i = row_total xs more in omega arith

    pub commas_total : (xs : List A) (more : List Part) → total (commas f xs more) ≡ sum_of (map g xs) + total more
    commas_total [] more = omega arith
    commas_total (x ∷ xs) more = let e = same x in let i = commas_total xs more in omega arith

    pub listed_total : (q : TokenKind) → maybe_count high q ≡ 0 → token_count high q ≡ 0 → (xs : List A) (more : List Part) → total (listed q f xs more) ≡ sum_of (map g xs) + total more
    listed_total q y z [] more = omega arith
    listed_total q y z (x ∷ []) more = let e = same x in omega arith
    listed_total q a z (x ∷ y ∷ ys) more = let e = same x in let i = listed_total q a z (y ∷ ys) more in omega arith

  -- ---- operators

  operator_count : (o : Operator) → token_count high (operator_kind o) ≡ division o
  operator_count o.Divide = refl
  operator_count o.Multiply = refl
  operator_count o.FloorDivide = refl
  operator_count o.Modulo = refl
  operator_count o.Add = refl
  operator_count o.Subtract = refl
  operator_count o.ShiftLeft = refl
  operator_count o.ShiftRight = refl
  operator_count o.BitAnd = refl
  operator_count o.BitXor = refl
  operator_count o.BitOr = refl
  operator_count o.And = refl
  operator_count o.Or = refl

  unary_total : (os : List UnaryOperator) (more : List Part) → total (row unary os more) ≡ total more
  unary_total [] more = refl
  unary_total (u.Plus ∷ os) more = let i = unary_total os more in omega arith
  unary_total (u.Minus ∷ os) more = let i = unary_total os more in omega arith
  unary_total (u.Invert ∷ os) more = let i = unary_total os more in omega arith
  unary_total (u.Not ∷ os) more = let i = unary_total os more in omega arith

  comparison_total : (o : Comparison) (more : List Part) → total (comparison o more) ≡ total more
  comparison_total c.Equal more = omega arith
  comparison_total c.NotEqual more = omega arith
  comparison_total c.Less more = omega arith
  comparison_total c.Greater more = omega arith
  comparison_total c.LessEqual more = omega arith
  comparison_total c.GreaterEqual more = omega arith
  comparison_total c.In more = omega arith
  comparison_total c.NotIn more = omega arith

  assignment_total : (o : Operator) (more : List Part) → total (token_of (assignment_kind o) more) ≡ division o + total more
  assignment_total o.Divide more = omega arith
  assignment_total o.Multiply more = omega arith
  assignment_total o.FloorDivide more = omega arith
  assignment_total o.Modulo more = omega arith
  assignment_total o.Add more = omega arith
  assignment_total o.Subtract more = omega arith
  assignment_total o.ShiftLeft more = omega arith
  assignment_total o.ShiftRight more = omega arith
  assignment_total o.BitAnd more = omega arith
  assignment_total o.BitXor more = omega arith
  assignment_total o.BitOr more = omega arith
  assignment_total o.And more = omega arith
  assignment_total o.Or more = omega arith

  -- ---- the parts of a node hold what it holds

  expr_same_by : (l : ExprLayer) (ps : List Part) → Same (total (expr_parts_by l ps)) (expr_by b l + total ps)
  expr_same_by (Expr-F.Expr::Name n) ps = inl (omega arith)
  expr_same_by (Expr-F.Int n) ps = inl (omega arith)
  expr_same_by (Expr-F.String s) ps = inl (omega arith)
  expr_same_by (Expr-F.Expr::List xs) ps = inl (let i = listed_total parts.expr (expr_count b) (λ x. refl) k.Comma refl refl xs (parts.token k.RightBracket ∷ ps) in omega arith)
  expr_same_by (Expr-F.Expr::Tuple []) ps = inl (omega arith)
  expr_same_by (Expr-F.Expr::Tuple (x ∷ xs)) ps = inl (let i = listed_total parts.expr (expr_count b) (λ x. refl) k.Comma refl refl xs (parts.token k.RightParen ∷ ps) in omega arith)
  expr_same_by (Expr-F.Dict xs) ps = inl (let i = listed_total parts.pair (pair_count b) (λ x. refl) k.Comma refl refl xs (parts.token k.RightBrace ∷ ps) in omega arith)
  expr_same_by (Expr-F.ListComprehension x cs own) ps = inl (let e = row_total parts.clause (clause_count b) (λ x. refl) cs (parts.token k.RightBracket ∷ ps) in omega arith)
  expr_same_by (Expr-F.DictComprehension x cs own) ps = inl (let e = row_total parts.clause (clause_count b) (λ x. refl) cs (parts.token k.RightBrace ∷ ps) in omega arith)
  expr_same_by (Expr-F.Primary x []) ps = inl (omega arith)
  expr_same_by (Expr-F.Primary x (y ∷ ys)) ps = inl (let e = row_total parts.suffix (suffix_count b) (λ x. refl) (y ∷ ys) ps in omega arith)
  expr_same_by (Expr-F.Unary os x) ps = inl (let e = unary_total os (parts.expr x ∷ ps) in omega arith)
  expr_same_by (Expr-F.Binary x os) ps = inl (let e = row_total parts.operation (operation_count b) (λ x. refl) os ps in omega arith)
  expr_same_by (Expr-F.Compare x o y) ps = inl (let e = comparison_total o (parts.expr y ∷ ps) in omega arith)
  expr_same_by (Expr-F.Conditional cs x) ps = inl (let e = row_total parts.choice (choice_count b) (λ x. refl) cs (parts.expr x ∷ ps) in omega arith)
  expr_same_by Expr-F.Lambda ps = inr (omega arith, omega arith)

  pub expr_same : (x : Expr) (ps : List Part) → Same (total (expr_parts x ps)) (total (parts.expr x ∷ ps))
  expr_same x ps = subst (λ n. Same (total (expr_parts x ps)) (n + total ps)) (sym (L.expr_opened b x)) (expr_same_by (out-Expr x) ps)

  pub pair_holds : (x : Pair) (ps : List Part) → total (pair_parts x ps) ≡ total (parts.pair x ∷ ps)
  pair_holds x ps = let e = L.pair_opened b x in omega arith

  pub operation_holds : (x : Operation) (ps : List Part) → total (operation_parts x ps) ≡ total (parts.operation x ∷ ps)
  operation_holds x ps = let e = L.operation_opened b x in let i = operator_count (out-Operation x).operator in omega arith

  pub choice_holds : (x : Choice) (ps : List Part) → total (choice_parts x ps) ≡ total (parts.choice x ∷ ps)
  choice_holds x ps = let e = L.choice_opened b x in omega arith

  optional_total : (x : Option Expr) (ps : List Part) → total (optional_expr x ps) ≡ optional_by b x + total ps
  optional_total None ps = omega arith
  optional_total (Some x) ps = refl

  step_total : (x : Option Expr) (ps : List Part) → total (step_parts x ps) ≡ optional_by b x + total ps
  step_total None ps = omega arith
  step_total (Some x) ps = omega arith

  arguments_total : (xs : List Argument) (ps : List Part) → total (arguments xs ps) ≡ sum_of (map (argument_count b) xs) + total ps
  arguments_total [] ps = omega arith
  arguments_total (x ∷ xs) ps = let e = row_total (parts.argument false) (argument_count b) (λ x. refl) xs (parts.maybe k.Comma ∷ parts.token k.RightParen ∷ ps) in omega arith

  suffix_total_by : (l : SuffixLayer) (ps : List Part) → total (suffix_parts_by l ps) ≡ suffix_by b l + total ps
  suffix_total_by (Suffix-F.Call xs) ps = let e = arguments_total xs ps in omega arith
  suffix_total_by (Suffix-F.Method n xs) ps = let e = arguments_total xs ps in omega arith
  suffix_total_by (Suffix-F.Attribute n) ps = omega arith
  suffix_total_by (Suffix-F.Suffix::Index x) ps = omega arith
  suffix_total_by (Suffix-F.Slice x y z) ps =
      let e = step_total z (parts.token k.RightBracket ∷ ps) in
      let f = optional_total y (step_parts z (parts.token k.RightBracket ∷ ps)) in
      let g = optional_total x (parts.token k.Colon ∷ optional_expr y (step_parts z (parts.token k.RightBracket ∷ ps))) in
      omega arith

  pub suffix_holds : (x : Suffix) (ps : List Part) → total (suffix_parts x ps) ≡ total (parts.suffix x ∷ ps)
  suffix_holds x ps = let e = L.suffix_opened b x in let i = suffix_total_by (out-Suffix x) ps in omega arith

  argument_total_by : (first : Bool) (l : ArgumentLayer) (ps : List Part) → total (argument_parts_by first l ps) ≡ argument_by b l + total ps
  argument_total_by true (Argument-F.Positional x) ps = omega arith
  argument_total_by false (Argument-F.Positional x) ps = omega arith
  argument_total_by true (Argument-F.Named s x) ps = omega arith
  argument_total_by false (Argument-F.Named s x) ps = omega arith
  argument_total_by true (Argument-F.Star x) ps = omega arith
  argument_total_by false (Argument-F.Star x) ps = omega arith
  argument_total_by true (Argument-F.StarStar x) ps = omega arith
  argument_total_by false (Argument-F.StarStar x) ps = omega arith

  pub argument_holds : (first : Bool) (x : Argument) (ps : List Part) → total (argument_parts first x ps) ≡ total (parts.argument first x ∷ ps)
  argument_holds first x ps = let e = L.argument_opened b x in let i = argument_total_by first (out-Argument x) ps in omega arith

  clause_total_by : (l : ClauseLayer) (ps : List Part) → total (clause_parts_by l ps) ≡ clause_by b l + total ps
  clause_total_by (Clause-F.For v x) ps = omega arith
  clause_total_by (Clause-F.If x) ps = omega arith

  pub clause_holds : (x : Clause) (ps : List Part) → total (clause_parts x ps) ≡ total (parts.clause x ∷ ps)
  clause_holds x ps = let e = L.clause_opened b x in let i = clause_total_by (out-Clause x) ps in omega arith

  target_total_by : (l : TargetLayer) (ps : List Part) → total (target_parts_by l ps) ≡ target_by b l + total ps
  target_total_by (TargetExpr-F.TargetExpr::Name n) ps = omega arith
  target_total_by (TargetExpr-F.TargetExpr::Index x i) ps = omega arith
  target_total_by (TargetExpr-F.TargetExpr::Tuple []) ps = omega arith
  target_total_by (TargetExpr-F.TargetExpr::Tuple (x ∷ xs)) ps = let i = listed_total parts.target (target_count b) (λ x. refl) k.Comma refl refl xs (parts.token k.RightParen ∷ ps) in omega arith
  target_total_by (TargetExpr-F.TargetExpr::List xs) ps = let i = listed_total parts.target (target_count b) (λ x. refl) k.Comma refl refl xs (parts.token k.RightBracket ∷ ps) in omega arith

  pub target_holds : (x : TargetExpr) (ps : List Part) → total (target_parts x ps) ≡ total (parts.target x ∷ ps)
  target_holds x ps = let e = L.target_opened b x in let i = target_total_by (out-TargetExpr x) ps in omega arith

  pub tuple_count : (xs : List Expr) → expr_count b (e.Tuple xs) ≡ sum_of (map (expr_count b) xs)
  tuple_count xs = L.expr_opened b (e.Tuple xs) ∙ ap (expr_by b) (out-Tuple xs)

  pub tuple_target_count : (xs : List TargetExpr) → target_count b (t.Tuple xs) ≡ sum_of (map (target_count b) xs)
  tuple_target_count xs = L.target_opened b (t.Tuple xs) ∙ ap (target_by b) (out-target_Tuple xs)

  -- ---- statements

  pub parameter_holds : (x : Parameter) (ps : List Part) → total (parameter_parts x ps) ≡ total (parts.parameter x ∷ ps)
  parameter_holds (p.Plain n) ps = omega arith
  parameter_holds (p.Default n x) ps = omega arith
  parameter_holds p.BareStar ps = omega arith
  parameter_holds (p.Star n) ps = omega arith
  parameter_holds (p.StarStar n) ps = omega arith

  zeros : (xs : List LoadClause) → sum_of (map (λ x. 0) xs) ≡ 0
  zeros [] = refl
  zeros (x ∷ xs) = let i = zeros xs in omega arith

  load_total : (xs : List LoadClause) (ps : List Part) → total (load_parts xs ps) ≡ total ps
  load_total [] ps = omega arith
  load_total (x ∷ xs) ps = let j = listed_total parts.load_clause (λ x. 0) (λ x. refl) k.Comma refl refl (x ∷ xs) ps in let i = zeros (x ∷ xs) in omega arith

  pub small_holds : (x : SmallKind) (ps : List Part) → total (small_parts x ps) ≡ kind_count b x + total ps
  small_holds (small.Expr x) ps = omega arith
  small_holds (small.Assign t x) ps = omega arith
  small_holds (small.Augment t o x) ps = let e = assignment_total o (parts.open_expr x ∷ ps) in omega arith
  small_holds (small.Return None) ps = omega arith
  small_holds (small.Return (Some x)) ps = omega arith
  small_holds small.Break ps = omega arith
  small_holds small.Continue ps = omega arith
  small_holds small.Pass ps = omega arith
  small_holds (small.Load l) ps = let e = load_total l.clauses (parts.token k.RightParen ∷ ps) in omega arith

  pub branch_holds : (x : Branch) (ps : List Part) → total (branch_parts x ps) ≡ total (parts.branch x ∷ ps)
  branch_holds x ps = let e = L.branch_opened b x in omega arith

  else_total : (xs : List Stmt) (ps : List Part) → total (else_parts xs ps) ≡ sum_of (map (stmt_count b) xs) + total ps
  else_total [] ps = omega arith
  else_total (x ∷ xs) ps = omega arith

  if_total : (xs : List Branch) (zs : List Stmt) (ps : List Part) → total (if_parts xs zs ps) ≡ sum_of (map (branch_count b) xs) + (sum_of (map (stmt_count b) zs) + total ps)
  if_total [] zs ps = let e = else_total zs ps in omega arith
  if_total (x ∷ xs) zs ps = let e = else_total zs ps in let i = row_total parts.elif (branch_count b) (λ x. refl) xs (else_parts zs ps) in omega arith

  stmt_total_by : (l : Stmt-F Stmt Branch) (ps : List Part) → total (stmt_parts_by l ps) ≡ stmt_by b l + total ps
  stmt_total_by (Stmt-F.Simple xs) ps = let i = listed_total parts.small_stmt (small_count b) (λ x. refl) k.Semicolon refl refl xs (parts.token k.Newline ∷ ps) in omega arith
  stmt_total_by (Stmt-F.If xs zs) ps = let e = if_total xs zs ps in omega arith
  stmt_total_by (Stmt-F.For v x xs) ps = omega arith
  stmt_total_by (Stmt-F.Def n qs xs) ps = let i = listed_total parts.parameter (parameter_count b) (λ x. refl) k.Comma refl refl qs (parts.token k.RightParen ∷ parts.token k.Colon ∷ parts.suite xs ∷ ps) in omega arith

  pub stmt_holds : (x : Stmt) (ps : List Part) → total (stmt_parts x ps) ≡ total (parts.stmt x ∷ ps)
  stmt_holds x ps = let e = L.stmt_opened b x in let i = stmt_total_by (out-Stmt x) ps in omega arith
