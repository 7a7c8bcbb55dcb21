-- Statements of functions that are not too deep have faults of names alone.
use Rattle.std.proofs.Common.{◌≡◌, ◌≤◌, ℕ, zero, suc, ◌+◌, Bool, true, false, ◌&&◌, List, [], ◌∷◌, map, Option, Some, None, Ok, Err, arith}
use Rattle.std.specs.Prelude.{if◌then◌else◌}
use Rattle.bq_base.specs.declared.fault.NameFault.{NameFault}
use Rattle.bq_base.specs.declared.fault.Fault.{Fault}
use Rattle.bq_base.specs.declared.fault.NameFault.TheVariants as f
use Rattle.bq_parse_grammar.specs.declared.tree.Branch.{Branch, out-Branch, roll-Branch}
use Rattle.bq_parse_grammar.specs.declared.tree.Expr.{Expr}
use Rattle.bq_parse_grammar.specs.declared.tree.Load.{Load}
use Rattle.bq_parse_grammar.specs.declared.tree.LoadClause.{LoadClause}
use Rattle.bq_parse_grammar.specs.declared.tree.Operator.{Operator}
use Rattle.bq_parse_grammar.specs.declared.tree.SmallKind.{SmallKind}
use Rattle.bq_parse_grammar.specs.declared.tree.SmallKind.TheVariants as small
use Rattle.bq_parse_grammar.specs.declared.tree.SmallStmt.{SmallStmt}
use Rattle.bq_parse_grammar.specs.declared.tree.Stmt.{Stmt, out-Stmt}
use Rattle.bq_parse_grammar.specs.declared.tree.Stmt.TheOpen.{Stmt-F}
use Rattle.bq_parse_grammar.specs.declared.tree.Stmt.TheVariants as s
use Rattle.bq_parse_grammar.specs.declared.tree.TargetExpr.{TargetExpr}
use Rattle.bq_resolve_scope.specs.declared.loads.LoadedSymbol.{LoadedSymbol}
use Rattle.bq_resolve_scope.specs.Names.{max_layers, has, with_name, place_among}
use Rattle.bq_resolve_scope.specs.Scope.{BlockParts, FileParts}
use Rattle.bq_resolve_scope.specs.Visit.{Passed, Visit, ◌>>=◌, pure, fault_of, each, optional}
use Rattle.bq_resolve_scope.specs.Expressions.{is_bzl, expr_to}
use Rattle.bq_resolve_scope.specs.Statements.{expr, target, load_clause, with_load, load, assign, augment, returned, load_in, in_loop, small_by, small_stmt, branch, if_stmt, for_stmt, stmt_by, stmt_to}
use Rattle.bq_parse_laws.specs.Depth.{deepest, expr_depth, target_depth, kind_depth, small_depth, branch_depth, stmt_depth}
use Rattle.bq_resolve_laws.proofs.Depths.Layers.{stmt_layer, opened_stmt, stmt_has_depth, opened_branch}
use Rattle.bq_resolve_laws.proofs.Depths.Calm.{is_of_names, IsCalm, Calm, rebound_is_named, twice_is_named, flow_is_named, calm_bind, calm_map, calm_two, calm_three, calm_all, calm_each}
use Rattle.bq_resolve_laws.proofs.Depths.Expressions.{expr_calm, target_calm}

clause_by : (b d : Bool) (why rebound : Fault NameFault) (p : LoadedSymbol × Passed) → is_of_names why.kind ≡ true → is_of_names rebound.kind ≡ true
    → IsCalm {A = LoadedSymbol} (if b then Err why else (if d then Err rebound else Ok p))
clause_by true d why rebound p h k = h
clause_by false true why rebound p h k = k
clause_by false false why rebound p h k = tt

module _ (file : FileParts) where
  pub an_expr_calm : (blocks : List BlockParts) (x : Expr) → expr_depth x ≤ max_layers → Calm (expr file blocks x)
  unfolding expr
  an_expr_calm blocks x h = expr_calm max_layers file (omega arith) blocks x h

  a_target_calm : (blocks : List BlockParts) (u : TargetExpr) → target_depth u ≤ max_layers → Calm (target file blocks u)
  unfolding target
  a_target_calm blocks u h = target_calm file max_layers (expr_to max_layers file) (expr_calm max_layers file (omega arith)) max_layers blocks u h (omega arith)

  -- ---- loads

  clause_calm : (x : LoadClause) → Calm (load_clause file x)
  unfolding load_clause
  clause_calm x u =
      clause_by (has u.loaded x.local.name) (is_bzl file.universe.kind && has u.bound x.local.name) (fault_of f.BoundTwice x.local) (fault_of f.Rebound x.local)
      (record { local = x.local.name; symbol = x.symbol; global = place_among x.local.name file.globals }, record u { loaded = with_name u.loaded x.local.name }) twice_is_named rebound_is_named

  load_calm : (line : ℕ) (l : Load) → Calm (load file line l)
  unfolding load
  load_calm line l =
      calm_bind (each (load_clause file) [] l.clauses) (λ xs. with_load file line l xs >>= λ _. pure (small.Load l)) (calm_all (load_clause file) clause_calm [] l.clauses) (λ xs u. tt)

  -- ---- small statements

  assign_calm : (blocks : List BlockParts) (t : TargetExpr) (x : Expr) → target_depth t ≤ max_layers → expr_depth x ≤ max_layers → Calm (assign file blocks t x)
  unfolding assign
  assign_calm blocks t x h k = calm_two (target file blocks t) (expr file blocks x) (λ u y. small.Assign u y) (a_target_calm blocks t h) (an_expr_calm blocks x k)

  augment_calm : (blocks : List BlockParts) (t : TargetExpr) (o : Operator) (x : Expr) → target_depth t ≤ max_layers → expr_depth x ≤ max_layers → Calm (augment file blocks t o x)
  unfolding augment
  augment_calm blocks t o x h k = calm_two (target file blocks t) (expr file blocks x) (λ u y. small.Augment u o y) (a_target_calm blocks t h) (an_expr_calm blocks x k)

  returned_calm : (blocks : List BlockParts) (line : ℕ) (x : Option Expr) → kind_depth (small.Return x) ≤ max_layers → Calm (returned file blocks line x)
  unfolding returned
  returned_calm [] line x h = λ u. flow_is_named
  returned_calm (b ∷ bs) line None h = λ u. tt
  returned_calm (b ∷ bs) line (Some x) h =
      calm_map (optional (expr file (b ∷ bs)) (Some x)) (λ y. small.Return y) (calm_map (expr file (b ∷ bs) x) (λ y. Some y) (an_expr_calm (b ∷ bs) x h))

  load_in_calm : (blocks : List BlockParts) (line : ℕ) (l : Load) → Calm (load_in file blocks line l)
  unfolding load_in
  load_in_calm [] line l = load_calm line l
  load_in_calm (b ∷ bs) line l = λ u. flow_is_named

  in_loop_calm : (looping : Bool) (line : ℕ) (x : SmallKind) → Calm (in_loop file looping line x)
  unfolding in_loop
  in_loop_calm true line x = λ u. tt
  in_loop_calm false line x = λ u. flow_is_named

  small_by_calm : (blocks : List BlockParts) (looping : Bool) (line : ℕ) (k : SmallKind) → kind_depth k ≤ max_layers → Calm (small_by file blocks looping line k)
  small_by_calm blocks looping line (small.Expr x) h = calm_map (expr file blocks x) (λ y. small.Expr y) (an_expr_calm blocks x h)
  small_by_calm blocks looping line (small.Assign t x) h = assign_calm blocks t x (omega arith) (omega arith)
  small_by_calm blocks looping line (small.Augment t o x) h = augment_calm blocks t o x (omega arith) (omega arith)
  small_by_calm blocks looping line (small.Return x) h = returned_calm blocks line x h
  small_by_calm blocks looping line small.Break h = in_loop_calm looping line small.Break
  small_by_calm blocks looping line small.Continue h = in_loop_calm looping line small.Continue
  small_by_calm blocks looping line small.Pass h = λ u. tt
  small_by_calm blocks looping line (small.Load l) h = load_in_calm blocks line l

  pub small_calm : (blocks : List BlockParts) (looping : Bool) (x : SmallStmt) → small_depth x ≤ max_layers → Calm (small_stmt file blocks looping x)
  unfolding small_stmt
  small_calm blocks looping x h = calm_map (small_by file blocks looping x.line x.kind) (λ k. record x { kind = k }) (small_by_calm blocks looping x.line x.kind h)

  -- ---- statements with blocks

  branch_calm : (inner : Stmt → Visit Stmt) (blocks : List BlockParts) (m : ℕ) → m ≤ max_layers → ((x : Stmt) → stmt_depth x ≤ m → Calm (inner x)) → (b : Branch) → branch_depth b ≤ m
      → Calm (branch file inner blocks b)
  unfolding branch
  branch_calm inner blocks m few inners b h =
      calm_two (expr file blocks (out-Branch b).condition) (each inner [] (out-Branch b).block) (λ x ys. roll-Branch (record { condition = x; block = ys }))
      (an_expr_calm blocks (out-Branch b).condition (omega (arith, opened_branch b))) (calm_each stmt_depth m inner inners [] (out-Branch b).block (omega (arith, opened_branch b)))

  if_calm : (inner : Stmt → Visit Stmt) (blocks : List BlockParts) (m : ℕ) → m ≤ max_layers → ((x : Stmt) → stmt_depth x ≤ m → Calm (inner x)) → (bs : List Branch) (zs : List Stmt)
      → deepest (map branch_depth bs) ≤ m → deepest (map stmt_depth zs) ≤ m → Calm (if_stmt file inner blocks bs zs)
  unfolding if_stmt
  if_calm inner blocks m few inners bs zs h k =
      calm_two (each (branch file inner blocks) [] bs) (each inner [] zs) (λ xs ys. s.If xs ys)
      (calm_each branch_depth m (branch file inner blocks) (branch_calm inner blocks m few inners) [] bs h) (calm_each stmt_depth m inner inners [] zs k)

  for_calm : (inner : Stmt → Visit Stmt) (blocks : List BlockParts) (m : ℕ) → m ≤ max_layers → ((x : Stmt) → stmt_depth x ≤ m → Calm (inner x)) → (t : TargetExpr) (x : Expr) (body : List Stmt)
      → target_depth t ≤ m → expr_depth x ≤ m → deepest (map stmt_depth body) ≤ m → Calm (for_stmt file inner blocks t x body)
  unfolding for_stmt
  for_calm inner blocks m few inners t x body h k l =
      calm_three (target file blocks t) (expr file blocks x) (each inner [] body) (λ u y zs. s.For u y zs)
      (a_target_calm blocks t (omega arith)) (an_expr_calm blocks x (omega arith)) (calm_each stmt_depth m inner inners [] body l)

  stmt_by_calm : (inner : Bool → Stmt → Visit Stmt) (blocks : List BlockParts) (looping : Bool) (m : ℕ) → m ≤ max_layers → ((l : Bool) (x : Stmt) → stmt_depth x ≤ m → Calm (inner l x))
      → (o : Stmt-F Stmt Branch) → stmt_layer o ≤ m + 1 → Calm (stmt_by file inner blocks looping o)
  stmt_by_calm inner blocks looping m few inners (Stmt-F.Simple xs) h =
      calm_map (each (small_stmt file blocks looping) [] xs) (λ ys. s.Simple ys) (calm_each small_depth max_layers (small_stmt file blocks looping) (small_calm blocks looping) [] xs (omega arith))
  stmt_by_calm inner blocks looping m few inners (Stmt-F.If bs zs) h = if_calm (inner looping) blocks m few (inners looping) bs zs (omega arith) (omega arith)
  stmt_by_calm inner blocks looping m few inners (Stmt-F.For t x body) h = for_calm (inner true) blocks m few (inners true) t x body (omega arith) (omega arith) (omega arith)
  stmt_by_calm inner blocks looping m few inners (Stmt-F.Def n ps body) h = λ u. flow_is_named

  pub stmt_calm : (layers : ℕ) → layers ≤ max_layers → (blocks : List BlockParts) (looping : Bool) (x : Stmt) → stmt_depth x ≤ layers → Calm (stmt_to file layers blocks looping x)
  unfolding stmt_to
  stmt_calm zero few blocks looping x h = absurd (omega (arith, opened_stmt x, stmt_has_depth (out-Stmt x)))
  stmt_calm (suc layers) few blocks looping x h =
      stmt_by_calm (stmt_to file layers blocks) blocks looping layers (omega arith) (stmt_calm layers (omega arith) blocks) (out-Stmt x) (omega (arith, opened_stmt x))
