-- What statements of functions resolve to is what the relation says.
use Rattle.std.proofs.Common.{◌≡◌, ℕ, zero, suc, Bool, true, false, List, [], ◌∷◌, Option, refl}
use Rattle.bq_parse_grammar.specs.declared.tree.Branch.{Branch, out-Branch, roll-Branch}
use Rattle.bq_parse_grammar.specs.declared.tree.Expr.{Expr}
use Rattle.bq_parse_grammar.specs.declared.tree.Operator.{Operator}
use Rattle.bq_parse_grammar.specs.declared.tree.SmallKind.{SmallKind}
use Rattle.bq_parse_grammar.specs.declared.tree.SmallKind.TheVariants as small
use Rattle.bq_parse_grammar.specs.declared.tree.SmallStmt.{SmallStmt}
use Rattle.bq_parse_grammar.specs.declared.tree.Stmt.{Stmt, out-Stmt}
use Rattle.bq_parse_grammar.specs.declared.tree.Stmt.TheOpen.{Stmt-F}
use Rattle.bq_parse_grammar.specs.declared.tree.TargetExpr.{TargetExpr}
use Rattle.bq_parse_grammar.specs.declared.tree.Stmt.TheVariants as s
use Rattle.bq_resolve_scope.specs.Names.{max_layers}
use Rattle.bq_resolve_scope.specs.Scope.{BlockParts, FileParts}
use Rattle.bq_resolve_scope.specs.Visit.{Visit, each, optional}
use Rattle.bq_resolve_scope.specs.Expressions.{expr_to}
use Rattle.bq_resolve_scope.specs.Statements.{expr, target, assign, augment, returned, load_in, in_loop, small_by, small_stmt, branch, if_stmt, for_stmt, stmt_by, stmt_to}
use Rattle.bq_resolve_laws.specs.Resolution.{InOrder, Maybe, ExprTo, ExprIs, TargetIs, kind_is, SmallIs, BranchIs, stmt_is_by, StmtTo}
use Rattle.bq_resolve_laws.proofs.Makes.{Makes, makes_map, makes_two, makes_three, makes_all, makes_optional}
use Rattle.bq_resolve_laws.proofs.ResolvedExpressions.{target_makes, expr_makes}

module _ (file : FileParts) where
  pub an_expr_makes : (blocks : List BlockParts) (x : Expr) → Makes (ExprIs file blocks x) (expr file blocks x)
  unfolding ExprIs expr
  an_expr_makes blocks x = expr_makes max_layers file blocks x

  a_target_makes : (blocks : List BlockParts) (u : TargetExpr) → Makes (TargetIs file blocks u) (target file blocks u)
  unfolding TargetIs target
  a_target_makes blocks u = target_makes file (expr_to max_layers file) (ExprTo file max_layers) (expr_makes max_layers file) max_layers blocks u

  pub assign_makes : (blocks : List BlockParts) (t : TargetExpr) (x : Expr) → Makes (kind_is file blocks (small.Assign t x)) (assign file blocks t x)
  unfolding assign
  assign_makes blocks t x = makes_two (TargetIs file blocks t) (ExprIs file blocks x) (target file blocks t) (expr file blocks x) (λ u y. small.Assign u y) (a_target_makes blocks t) (an_expr_makes blocks x)

  pub augment_makes : (blocks : List BlockParts) (t : TargetExpr) (o : Operator) (x : Expr) → Makes (kind_is file blocks (small.Augment t o x)) (augment file blocks t o x)
  unfolding augment
  augment_makes blocks t o x = makes_two (TargetIs file blocks t) (ExprIs file blocks x) (target file blocks t) (expr file blocks x) (λ u y. small.Augment u o y) (a_target_makes blocks t) (an_expr_makes blocks x)

  pub returned_makes : (blocks : List BlockParts) (line : ℕ) (x : Option Expr) → Makes (kind_is file blocks (small.Return x)) (returned file blocks line x)
  unfolding returned
  returned_makes [] line x = λ u. tt
  returned_makes (b ∷ bs) line x =
      makes_map (λ y. Maybe (ExprIs file (b ∷ bs)) x y) (optional (expr file (b ∷ bs)) x) (λ y. small.Return y) (makes_optional (ExprIs file (b ∷ bs)) (expr file (b ∷ bs)) (an_expr_makes (b ∷ bs)) x)

  pub in_loop_makes : (looping : Bool) (line : ℕ) (x : SmallKind) → Makes (λ z. z ≡ x) (in_loop file looping line x)
  unfolding in_loop
  in_loop_makes true line x = λ u. (refl, refl, refl)
  in_loop_makes false line x = λ u. tt

  small_by_makes : (b : BlockParts) (bs : List BlockParts) (looping : Bool) (line : ℕ) (k : SmallKind) → Makes (kind_is file (b ∷ bs) k) (small_by file (b ∷ bs) looping line k)
  unfolding load_in
  small_by_makes b bs looping line (small.Expr x) = makes_map (ExprIs file (b ∷ bs) x) (expr file (b ∷ bs) x) (λ y. small.Expr y) (an_expr_makes (b ∷ bs) x)
  small_by_makes b bs looping line (small.Assign t x) = assign_makes (b ∷ bs) t x
  small_by_makes b bs looping line (small.Augment t o x) = augment_makes (b ∷ bs) t o x
  small_by_makes b bs looping line (small.Return x) = returned_makes (b ∷ bs) line x
  small_by_makes b bs looping line small.Break = in_loop_makes looping line small.Break
  small_by_makes b bs looping line small.Continue = in_loop_makes looping line small.Continue
  small_by_makes b bs looping line small.Pass = λ u. (refl, refl, refl)
  small_by_makes b bs looping line (small.Load l) = λ u. tt

  small_makes : (b : BlockParts) (bs : List BlockParts) (looping : Bool) (x : SmallStmt) → Makes (SmallIs file (b ∷ bs) x) (small_stmt file (b ∷ bs) looping x)
  unfolding SmallIs small_stmt
  small_makes b bs looping x = makes_map (kind_is file (b ∷ bs) x.kind) (small_by file (b ∷ bs) looping x.line x.kind) (λ k. record x { kind = k }) (small_by_makes b bs looping x.line x.kind)

  -- ---- statements with blocks

  module _ (b : BlockParts) (bs : List BlockParts) (R : Stmt → Stmt → Type 0) where
    branch_makes : (go : Stmt → Visit Stmt) → ((x : Stmt) → Makes (R x) (go x)) → (x : Branch) → Makes (BranchIs file R (b ∷ bs) x) (branch file go (b ∷ bs) x)
    unfolding BranchIs branch
    branch_makes go goes x =
        makes_two (ExprIs file (b ∷ bs) (out-Branch x).condition) (λ ys. InOrder R (out-Branch x).block ys) (expr file (b ∷ bs) (out-Branch x).condition) (each go [] (out-Branch x).block)
        (λ y ys. roll-Branch (record { condition = y; block = ys })) (an_expr_makes (b ∷ bs) (out-Branch x).condition) (makes_all R go goes (out-Branch x).block)

    if_makes : (go : Stmt → Visit Stmt) → ((x : Stmt) → Makes (R x) (go x)) → (xs : List Branch) (zs : List Stmt) → Makes (stmt_is_by file R (b ∷ bs) (Stmt-F.If xs zs)) (if_stmt file go (b ∷ bs) xs zs)
    unfolding if_stmt
    if_makes go goes xs zs =
        makes_two (λ ys. InOrder (BranchIs file R (b ∷ bs)) xs ys) (λ ys. InOrder R zs ys) (each (branch file go (b ∷ bs)) [] xs) (each go [] zs) (λ us vs. s.If us vs)
        (makes_all (BranchIs file R (b ∷ bs)) (branch file go (b ∷ bs)) (branch_makes go goes) xs) (makes_all R go goes zs)

    for_makes : (go : Stmt → Visit Stmt) → ((x : Stmt) → Makes (R x) (go x)) → (t : TargetExpr) (x : Expr) (body : List Stmt)
        → Makes (stmt_is_by file R (b ∷ bs) (Stmt-F.For t x body)) (for_stmt file go (b ∷ bs) t x body)
    unfolding for_stmt
    for_makes go goes t x body =
        makes_three (TargetIs file (b ∷ bs) t) (ExprIs file (b ∷ bs) x) (λ ys. InOrder R body ys) (target file (b ∷ bs) t) (expr file (b ∷ bs) x) (each go [] body) (λ u y zs. s.For u y zs)
        (a_target_makes (b ∷ bs) t) (an_expr_makes (b ∷ bs) x) (makes_all R go goes body)

    stmt_by_makes : (go : Bool → Stmt → Visit Stmt) → ((l : Bool) (x : Stmt) → Makes (R x) (go l x)) → (looping : Bool) (o : Stmt-F Stmt Branch) → Makes (stmt_is_by file R (b ∷ bs) o) (stmt_by file go (b ∷ bs) looping o)
    stmt_by_makes go goes looping (Stmt-F.Simple xs) =
        makes_map (λ ys. InOrder (SmallIs file (b ∷ bs)) xs ys) (each (small_stmt file (b ∷ bs) looping) [] xs) (λ ys. s.Simple ys) (makes_all (SmallIs file (b ∷ bs)) (small_stmt file (b ∷ bs) looping) (small_makes b bs looping) xs)
    stmt_by_makes go goes looping (Stmt-F.If xs zs) = if_makes (go looping) (goes looping) xs zs
    stmt_by_makes go goes looping (Stmt-F.For t x body) = for_makes (go true) (goes true) t x body
    stmt_by_makes go goes looping (Stmt-F.Def n ps body) = λ u. tt

  pub stmt_makes : (layers : ℕ) (b : BlockParts) (bs : List BlockParts) (looping : Bool) (x : Stmt) → Makes (StmtTo file layers (b ∷ bs) x) (stmt_to file layers (b ∷ bs) looping x)
  unfolding StmtTo stmt_to
  stmt_makes zero b bs looping x = λ u. tt
  stmt_makes (suc layers) b bs looping x = stmt_by_makes b bs (StmtTo file layers (b ∷ bs)) (stmt_to file layers (b ∷ bs)) (stmt_makes layers b bs) looping (out-Stmt x)
