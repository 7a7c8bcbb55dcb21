-- The fault of a statement of a function is the first rule that it breaks.
use Rattle.std.specs.List.{flat_map}
use Rattle.std.proofs.Common.{ℕ, zero, suc, Bool, true, false, List, [], ◌∷◌, ◌++◌, Option, inl, inr, refl}
use Rattle.bq_base.specs.declared.fault.NameFault.{NameFault}
use Rattle.bq_base.specs.declared.fault.Fault.{Fault}
use Rattle.bq_base.specs.declared.fault.NameFault.TheVariants as f
use Rattle.bq_base.specs.Fault.{fault_at}
use Rattle.bq_parse_grammar.specs.declared.tree.Branch.{Branch, out-Branch, roll-Branch}
use Rattle.bq_parse_grammar.specs.declared.tree.Expr.{Expr}
use Rattle.bq_parse_grammar.specs.declared.tree.Operator.{Operator}
use Rattle.bq_parse_grammar.specs.declared.tree.SmallKind.{SmallKind}
use Rattle.bq_parse_grammar.specs.declared.tree.SmallKind.TheVariants as small
use Rattle.bq_parse_grammar.specs.declared.tree.SmallStmt.{SmallStmt}
use Rattle.bq_parse_grammar.specs.declared.tree.Stmt.{Stmt, out-Stmt}
use Rattle.bq_parse_grammar.specs.declared.tree.Stmt.TheOpen.{Stmt-F}
use Rattle.bq_parse_grammar.specs.declared.tree.TargetExpr.{TargetExpr}
use Rattle.bq_parse_grammar.specs.declared.tree.Stmt.TheVariants as s
use Rattle.bq_resolve_scope.specs.Names.{Name, max_layers}
use Rattle.bq_resolve_scope.specs.Scope.{BlockParts, FileParts}
use Rattle.bq_resolve_scope.specs.Visit.{Visit, each, optional}
use Rattle.bq_resolve_scope.specs.Expressions.{expr_to}
use Rattle.bq_resolve_scope.specs.Statements.{expr, target, assign, augment, returned, load_in, in_loop, small_by, small_stmt, branch, if_stmt, for_stmt, stmt_by, stmt_to}
use Rattle.bq_resolve_laws.specs.Binds.{AnyOf, TargetBinds, kind_binds, SmallBinds, stmt_binds_by, StmtBindsTo}
use Rattle.bq_resolve_laws.specs.Violations.{of_part, unless, in_expr_to, in_expr, in_target, in_small_by, in_small, in_branch, in_stmt_by, in_stmt_to}
use Rattle.bq_resolve_laws.proofs.Finds.{Finds, Holds, finds_map, finds_two, finds_three, finds_held, finds_optional}
use Rattle.bq_resolve_laws.proofs.UnknownNames.{around_of}
use Rattle.bq_resolve_laws.proofs.FaultyExpressions.{target_finds, expr_finds}

module _ (file : FileParts) where
  pub an_expr_finds : (blocks : List BlockParts) (x : Expr) → Finds (in_expr file (around_of blocks) x) (expr file blocks x)
  unfolding in_expr expr
  an_expr_finds blocks x = expr_finds max_layers file blocks x

  a_target_finds : (block : BlockParts) (blocks : List BlockParts) (u : TargetExpr) → Holds block.names (λ name. TargetBinds name u)
      → Finds (in_target file (around_of (block ∷ blocks)) u) (target file (block ∷ blocks) u)
  unfolding in_target target in_expr TargetBinds
  a_target_finds block blocks u held = target_finds file (expr_to max_layers file) (in_expr_to file max_layers) (expr_finds max_layers file) max_layers block blocks u held

  -- ---- small statements

  assign_finds : (block : BlockParts) (blocks : List BlockParts) (t : TargetExpr) (x : Expr) → Holds block.names (λ name. TargetBinds name t)
      → Finds (in_target file (around_of (block ∷ blocks)) t ++ in_expr file (around_of (block ∷ blocks)) x) (assign file (block ∷ blocks) t x)
  unfolding assign
  assign_finds block blocks t x held =
      finds_two (target file (block ∷ blocks) t) (expr file (block ∷ blocks) x) (λ u y. small.Assign u y) (in_target file (around_of (block ∷ blocks)) t) (in_expr file (around_of (block ∷ blocks)) x)
      (a_target_finds block blocks t held) (an_expr_finds (block ∷ blocks) x)

  augment_finds : (block : BlockParts) (blocks : List BlockParts) (t : TargetExpr) (o : Operator) (x : Expr) → Holds block.names (λ name. TargetBinds name t)
      → Finds (in_target file (around_of (block ∷ blocks)) t ++ in_expr file (around_of (block ∷ blocks)) x) (augment file (block ∷ blocks) t o x)
  unfolding augment
  augment_finds block blocks t o x held =
      finds_two (target file (block ∷ blocks) t) (expr file (block ∷ blocks) x) (λ u y. small.Augment u o y) (in_target file (around_of (block ∷ blocks)) t) (in_expr file (around_of (block ∷ blocks)) x)
      (a_target_finds block blocks t held) (an_expr_finds (block ∷ blocks) x)

  returned_finds : (block : BlockParts) (blocks : List BlockParts) (line : ℕ) (x : Option Expr) → Finds (of_part (in_expr file (around_of (block ∷ blocks))) x) (returned file (block ∷ blocks) line x)
  unfolding returned
  returned_finds block blocks line x =
      finds_map (optional (expr file (block ∷ blocks)) x) (λ y. small.Return y) (of_part (in_expr file (around_of (block ∷ blocks))) x)
      (finds_optional (expr file (block ∷ blocks)) (in_expr file (around_of (block ∷ blocks))) (an_expr_finds (block ∷ blocks)) x)

  pub in_loop_finds : (looping : Bool) (line : ℕ) (x : SmallKind) → Finds (unless looping (fault_at f.BadFlow line)) (in_loop file looping line x)
  unfolding in_loop
  in_loop_finds true line x = λ u. (refl, refl)
  in_loop_finds false line x = λ u. refl

  small_by_finds : (block : BlockParts) (blocks : List BlockParts) (looping : Bool) (line : ℕ) (k : SmallKind) → Holds block.names (λ name. kind_binds name k)
      → Finds (in_small_by file (around_of (block ∷ blocks)) looping line k) (small_by file (block ∷ blocks) looping line k)
  unfolding load_in
  small_by_finds block blocks looping line (small.Expr x) held =
      finds_map (expr file (block ∷ blocks) x) (λ y. small.Expr y) (in_expr file (around_of (block ∷ blocks)) x) (an_expr_finds (block ∷ blocks) x)
  small_by_finds block blocks looping line (small.Assign t x) held = assign_finds block blocks t x held
  small_by_finds block blocks looping line (small.Augment t o x) held = augment_finds block blocks t o x held
  small_by_finds block blocks looping line (small.Return x) held = returned_finds block blocks line x
  small_by_finds block blocks looping line small.Break held = in_loop_finds looping line small.Break
  small_by_finds block blocks looping line small.Continue held = in_loop_finds looping line small.Continue
  small_by_finds block blocks looping line small.Pass held = λ u. (refl, refl)
  small_by_finds block blocks looping line (small.Load l) held = λ u. refl

  small_finds : (block : BlockParts) (blocks : List BlockParts) (looping : Bool) (x : SmallStmt) → Holds block.names (λ name. SmallBinds name x)
      → Finds (in_small file (around_of (block ∷ blocks)) looping x) (small_stmt file (block ∷ blocks) looping x)
  unfolding in_small small_stmt SmallBinds
  small_finds block blocks looping x held =
      finds_map (small_by file (block ∷ blocks) looping x.line x.kind) (λ k. record x { kind = k }) (in_small_by file (around_of (block ∷ blocks)) looping x.line x.kind)
      (small_by_finds block blocks looping x.line x.kind held)

  -- ---- statements with blocks, in the block of their function

  module _ (block : BlockParts) (blocks : List BlockParts) (P : Name → Stmt → Type 0) where
    branch_finds : (go : Stmt → Visit Stmt) (F : Stmt → List (Fault NameFault)) → ((x : Stmt) → Holds block.names (λ name. P name x) → Finds (F x) (go x)) → (b : Branch)
        → Holds block.names (λ name. AnyOf (P name) (out-Branch b).block) → Finds (in_branch file F (around_of (block ∷ blocks)) b) (branch file go (block ∷ blocks) b)
    unfolding in_branch branch
    branch_finds go F goes b held =
        finds_two (expr file (block ∷ blocks) (out-Branch b).condition) (each go [] (out-Branch b).block) (λ x ys. roll-Branch (record { condition = x; block = ys }))
        (in_expr file (around_of (block ∷ blocks)) (out-Branch b).condition) (flat_map F (out-Branch b).block)
        (an_expr_finds (block ∷ blocks) (out-Branch b).condition) (finds_held block.names go F P goes [] (out-Branch b).block held)

    if_finds : (go : Stmt → Visit Stmt) (F : Stmt → List (Fault NameFault)) → ((x : Stmt) → Holds block.names (λ name. P name x) → Finds (F x) (go x)) → (bs : List Branch) (zs : List Stmt)
        → Holds block.names (λ name. AnyOf (λ b. AnyOf (P name) (out-Branch b).block) bs) → Holds block.names (λ name. AnyOf (P name) zs)
        → Finds (flat_map (in_branch file F (around_of (block ∷ blocks))) bs ++ flat_map F zs) (if_stmt file go (block ∷ blocks) bs zs)
    unfolding if_stmt
    if_finds go F goes bs zs held other =
        finds_two (each (branch file go (block ∷ blocks)) [] bs) (each go [] zs) (λ xs ys. s.If xs ys) (flat_map (in_branch file F (around_of (block ∷ blocks))) bs) (flat_map F zs)
        (finds_held block.names (branch file go (block ∷ blocks)) (in_branch file F (around_of (block ∷ blocks))) (λ name b. AnyOf (P name) (out-Branch b).block) (branch_finds go F goes) [] bs held)
        (finds_held block.names go F P goes [] zs other)

    for_finds : (go : Stmt → Visit Stmt) (F : Stmt → List (Fault NameFault)) → ((x : Stmt) → Holds block.names (λ name. P name x) → Finds (F x) (go x)) → (t : TargetExpr) (x : Expr) (body : List Stmt)
        → Holds block.names (λ name. TargetBinds name t) → Holds block.names (λ name. AnyOf (P name) body)
        → Finds (in_target file (around_of (block ∷ blocks)) t ++ (in_expr file (around_of (block ∷ blocks)) x ++ flat_map F body)) (for_stmt file go (block ∷ blocks) t x body)
    unfolding for_stmt
    for_finds go F goes t x body held other =
        finds_three (target file (block ∷ blocks) t) (expr file (block ∷ blocks) x) (each go [] body) (λ u y zs. s.For u y zs)
        (in_target file (around_of (block ∷ blocks)) t) (in_expr file (around_of (block ∷ blocks)) x) (flat_map F body)
        (a_target_finds block blocks t held) (an_expr_finds (block ∷ blocks) x) (finds_held block.names go F P goes [] body other)

    stmt_by_finds : (go : Bool → Stmt → Visit Stmt) (F : Bool → Stmt → List (Fault NameFault)) → ((l : Bool) (x : Stmt) → Holds block.names (λ name. P name x) → Finds (F l x) (go l x))
        → (looping : Bool) (o : Stmt-F Stmt Branch) → Holds block.names (λ name. stmt_binds_by (P name) name o)
        → Finds (in_stmt_by file F (around_of (block ∷ blocks)) looping o) (stmt_by file go (block ∷ blocks) looping o)
    stmt_by_finds go F goes looping (Stmt-F.Simple xs) held =
        finds_map (each (small_stmt file (block ∷ blocks) looping) [] xs) (λ ys. s.Simple ys) (flat_map (in_small file (around_of (block ∷ blocks)) looping) xs)
        (finds_held block.names (small_stmt file (block ∷ blocks) looping) (in_small file (around_of (block ∷ blocks)) looping) SmallBinds (small_finds block blocks looping) [] xs held)
    stmt_by_finds go F goes looping (Stmt-F.If bs zs) held = if_finds (go looping) (F looping) (goes looping) bs zs (λ name p. held name (inl p)) (λ name p. held name (inr p))
    stmt_by_finds go F goes looping (Stmt-F.For t x body) held = for_finds (go true) (F true) (goes true) t x body (λ name p. held name (inl p)) (λ name p. held name (inr p))
    stmt_by_finds go F goes looping (Stmt-F.Def n ps body) held = λ u. refl

  pub stmt_finds : (layers : ℕ) (block : BlockParts) (blocks : List BlockParts) (looping : Bool) (x : Stmt) → Holds block.names (λ name. StmtBindsTo layers name x)
      → Finds (in_stmt_to file layers (around_of (block ∷ blocks)) looping x) (stmt_to file layers (block ∷ blocks) looping x)
  unfolding in_stmt_to stmt_to StmtBindsTo
  stmt_finds zero block blocks looping x held = λ u. refl
  stmt_finds (suc layers) block blocks looping x held =
      stmt_by_finds block blocks (StmtBindsTo layers) (stmt_to file layers (block ∷ blocks)) (in_stmt_to file layers (around_of (block ∷ blocks))) (stmt_finds layers block blocks) looping (out-Stmt x) held
