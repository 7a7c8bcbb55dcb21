-- Statements of functions need no more slots than the frame has after them.
use Rattle.std.proofs.Common.{◌≡◌, ◌≤◌, ℕ, zero, suc, max, Bool, true, false, List, [], ◌∷◌, ◌++◌, map, Option, Some, None, Err, refl, arith}
use Rattle.std.specs.Prelude.{if◌then◌else◌}
use Rattle.bq_base.specs.declared.fault.NameFault.{NameFault}
use Rattle.bq_base.specs.declared.fault.Fault.{Fault}
use Rattle.bq_base.specs.declared.fault.NameFault.TheVariants as f
use Rattle.bq_base.specs.Fault.{fault_at}
use Rattle.bq_parse_grammar.specs.declared.tree.Branch.{Branch, out-Branch, roll-Branch}
use Rattle.bq_parse_grammar.specs.declared.tree.Expr.{Expr}
use Rattle.bq_parse_grammar.specs.declared.tree.Load.{Load}
use Rattle.bq_parse_grammar.specs.declared.tree.LoadClause.{LoadClause}
use Rattle.bq_parse_grammar.specs.declared.tree.Operator.{Operator}
use Rattle.bq_parse_grammar.specs.declared.tree.SmallKind.{SmallKind}
use Rattle.bq_parse_grammar.specs.declared.tree.SmallKind.TheVariants as small
use Rattle.bq_parse_grammar.specs.declared.tree.SmallStmt.{SmallStmt}
use Rattle.bq_parse_grammar.specs.declared.tree.Stmt.{Stmt, out-Stmt}
use Rattle.bq_parse_grammar.specs.declared.tree.Stmt.TheOpen.{Stmt-F}
use Rattle.bq_parse_grammar.specs.declared.tree.TargetExpr.{TargetExpr}
use Rattle.bq_parse_grammar.specs.Literals.{name_line}
use Rattle.bq_parse_grammar.specs.declared.tree.Stmt.TheVariants as s
use Rattle.bq_resolve_scope.specs.declared.loads.LoadedSymbol.{LoadedSymbol}
use Rattle.bq_resolve_scope.specs.Names.{Name, max_layers, has, with_name}
use Rattle.bq_resolve_scope.specs.Scope.{BlockParts, FileParts}
use Rattle.bq_resolve_scope.specs.Visit.{Passed, Visit, ◌>>=◌, pure, fault_of, each, optional}
use Rattle.bq_resolve_scope.specs.Expressions.{expr_to}
use Rattle.bq_resolve_scope.specs.Statements.{expr, target, load_clause, with_load, load, assign, augment, returned, load_in, in_loop, small_by, small_stmt, branch, if_stmt, for_stmt, stmt_by, stmt_to}
use Rattle.bq_resolve_laws.specs.FrameSizes.{most, expr_slots, target_slots, kind_slots, small_slots, stmt_slots, branch_slots}
use Rattle.bq_resolve_laws.proofs.Steps as S
use Rattle.bq_resolve_laws.proofs.Needs.{room, Made, Needs, ends, moved, needs_pure, needs_stop, needs_bind, needs_map, needs_two, needs_three, needs_all, part, needs_optional}
use Rattle.bq_resolve_laws.proofs.Expressions.{expr_needs, target_needs}

-- what is no tree needs nothing
abbrev pub nothing : {A : Type 0} → A → ℕ
nothing x = 0

module _ (file : FileParts) where
  pub an_expr_needs : (blocks : List BlockParts) (x : Expr) → Needs blocks 0 expr_slots (expr file blocks x)
  unfolding expr
  an_expr_needs blocks x = expr_needs max_layers file blocks x

  pub a_target_needs : (blocks : List BlockParts) (t : TargetExpr) → Needs blocks 0 target_slots (target file blocks t)
  unfolding target
  a_target_needs blocks t = target_needs file (expr_to max_layers file) (expr_needs max_layers file) max_layers blocks t

  -- ---- loads

  clause_by : (b d : Bool) (why rebound : Fault NameFault) (l : LoadedSymbol) (names : List Name) (blocks : List BlockParts) (u t : Passed) (x : LoadedSymbol) → 0 ≤ room blocks u.slots
      → (if b then Err why else (if d then Err rebound else ends l (record u { loaded = names }))) ≡ ends x t → Made nothing blocks u t x
  clause_by true d why rebound l names blocks u t x h e = absurd (let no : ⊥ = cc in no)
  clause_by false true why rebound l names blocks u t x h e = absurd (let no : ⊥ = cc in no)
  clause_by false false why rebound l names blocks u t x h e = moved blocks 0 nothing l x u (record u { loaded = names }) t refl refl (omega arith) h e

  clause_needs : (blocks : List BlockParts) (x : LoadClause) → Needs blocks 0 nothing (load_clause file x)
  unfolding load_clause
  clause_needs blocks x u t y w h e = clause_by (has u.loaded x.local.name) _ (fault_of f.BoundTwice x.local) (fault_of f.Rebound x.local) _ (with_name u.loaded x.local.name) blocks u t y h e

  kept_needs : (blocks : List BlockParts) (line : ℕ) (l : Load) (xs : List LoadedSymbol) → Needs blocks 0 nothing (with_load file line l xs)
  kept_needs blocks line l xs u t y w h e =
      moved blocks 0 nothing tt y u (record u { loads = u.loads ++ record { label = l.label; line = line; clauses = xs } ∷ [] }) t refl refl (omega arith) h e

  most_nothing : {A : Type 0} (xs : List A) → most (map nothing xs) ≡ 0
  most_nothing [] = refl
  most_nothing (x ∷ xs) = let e : most (map nothing xs) ≡ 0 = most_nothing xs in omega arith

  load_needs : (blocks : List BlockParts) (line : ℕ) (l : Load) → Needs blocks 0 kind_slots (load file line l)
  unfolding load
  load_needs blocks line l =
      needs_bind blocks 0 (λ xs. most (map nothing xs)) kind_slots (each (load_clause file) [] l.clauses) (λ xs. with_load file line l xs >>= λ _. pure (small.Load l))
      (needs_all blocks nothing (load_clause file) (clause_needs blocks) l.clauses)
      (λ xs. needs_map blocks (max 0 (most (map nothing xs))) nothing kind_slots (with_load file line l xs) (λ _. small.Load l) (λ u t y w h e. kept_needs blocks line l xs u t y w (omega arith) e) (λ _. omega arith))

  -- ---- small statements

  assign_needs : (blocks : List BlockParts) (t : TargetExpr) (x : Expr) → Needs blocks 0 kind_slots (assign file blocks t x)
  unfolding assign
  assign_needs blocks t x =
      needs_two blocks target_slots expr_slots kind_slots (target file blocks t) (expr file blocks x) (λ u y. small.Assign u y) (a_target_needs blocks t) (an_expr_needs blocks x) (λ u y. omega arith)

  augment_needs : (blocks : List BlockParts) (t : TargetExpr) (o : Operator) (x : Expr) → Needs blocks 0 kind_slots (augment file blocks t o x)
  unfolding augment
  augment_needs blocks t o x =
      needs_two blocks target_slots expr_slots kind_slots (target file blocks t) (expr file blocks x) (λ u y. small.Augment u o y) (a_target_needs blocks t) (an_expr_needs blocks x) (λ u y. omega arith)

  return_slots : (y : Option Expr) → kind_slots (small.Return y) ≤ max 0 (part expr_slots y)
  return_slots None = omega arith
  return_slots (Some x) = omega arith

  returned_needs : (blocks : List BlockParts) (line : ℕ) (x : Option Expr) → Needs blocks 0 kind_slots (returned file blocks line x)
  unfolding returned
  returned_needs [] line x = needs_stop [] 0 kind_slots (fault_at f.BadFlow line)
  returned_needs (b ∷ bs) line x =
      needs_map (b ∷ bs) 0 (part expr_slots) kind_slots (optional (expr file (b ∷ bs)) x) (λ y. small.Return y) (needs_optional (b ∷ bs) expr_slots (expr file (b ∷ bs)) (an_expr_needs (b ∷ bs)) x) return_slots

  load_in_needs : (blocks : List BlockParts) (line : ℕ) (l : Load) → Needs blocks 0 kind_slots (load_in file blocks line l)
  unfolding load_in
  load_in_needs [] line l = load_needs [] line l
  load_in_needs (b ∷ bs) line l = needs_stop (b ∷ bs) 0 kind_slots (fault_at f.BadFlow line)

  in_loop_needs : (blocks : List BlockParts) (looping : Bool) (line : ℕ) (x : SmallKind) → kind_slots x ≤ 0 → Needs blocks 0 kind_slots (in_loop file looping line x)
  unfolding in_loop
  in_loop_needs blocks true line x h = needs_pure blocks 0 kind_slots x h
  in_loop_needs blocks false line x h = needs_stop blocks 0 kind_slots (fault_at f.BadFlow line)

  small_by_needs : (blocks : List BlockParts) (looping : Bool) (line : ℕ) (k : SmallKind) → Needs blocks 0 kind_slots (small_by file blocks looping line k)
  small_by_needs blocks looping line (small.Expr x) = needs_map blocks 0 expr_slots kind_slots (expr file blocks x) (λ y. small.Expr y) (an_expr_needs blocks x) (λ y. omega arith)
  small_by_needs blocks looping line (small.Assign t x) = assign_needs blocks t x
  small_by_needs blocks looping line (small.Augment t o x) = augment_needs blocks t o x
  small_by_needs blocks looping line (small.Return x) = returned_needs blocks line x
  small_by_needs blocks looping line small.Break = in_loop_needs blocks looping line small.Break (omega arith)
  small_by_needs blocks looping line small.Continue = in_loop_needs blocks looping line small.Continue (omega arith)
  small_by_needs blocks looping line small.Pass = needs_pure blocks 0 kind_slots small.Pass (omega arith)
  small_by_needs blocks looping line (small.Load l) = load_in_needs blocks line l

  pub small_needs : (blocks : List BlockParts) (looping : Bool) (x : SmallStmt) → Needs blocks 0 small_slots (small_stmt file blocks looping x)
  unfolding small_stmt
  small_needs blocks looping x =
      needs_map blocks 0 kind_slots small_slots (small_by file blocks looping x.line x.kind) (λ k. record x { kind = k }) (small_by_needs blocks looping x.line x.kind) (λ k. omega arith)

  -- ---- statements with blocks

  branch_needs : (inner : Stmt → Visit Stmt) (blocks : List BlockParts) → ((x : Stmt) → Needs blocks 0 stmt_slots (inner x)) → (b : Branch) → Needs blocks 0 branch_slots (branch file inner blocks b)
  unfolding branch
  branch_needs inner blocks inners b =
      needs_two blocks expr_slots (λ ys. most (map stmt_slots ys)) branch_slots (expr file blocks (out-Branch b).condition) (each inner [] (out-Branch b).block)
      (λ x ys. roll-Branch (record { condition = x; block = ys })) (an_expr_needs blocks (out-Branch b).condition) (needs_all blocks stmt_slots inner inners (out-Branch b).block)
      (λ x ys. omega (arith, S.slots-branch x ys))

  if_needs : (inner : Stmt → Visit Stmt) (blocks : List BlockParts) → ((x : Stmt) → Needs blocks 0 stmt_slots (inner x)) → (bs : List Branch) (zs : List Stmt) → Needs blocks 0 stmt_slots (if_stmt file inner blocks bs zs)
  unfolding if_stmt
  if_needs inner blocks inners bs zs =
      needs_two blocks (λ xs. most (map branch_slots xs)) (λ ys. most (map stmt_slots ys)) stmt_slots (each (branch file inner blocks) [] bs) (each inner [] zs) (λ xs ys. s.If xs ys)
      (needs_all blocks branch_slots (branch file inner blocks) (branch_needs inner blocks inners) bs) (needs_all blocks stmt_slots inner inners zs) (λ xs ys. omega (arith, S.slots-stmt_If xs ys))

  for_needs : (inner : Stmt → Visit Stmt) (blocks : List BlockParts) → ((x : Stmt) → Needs blocks 0 stmt_slots (inner x)) → (t : TargetExpr) (x : Expr) (body : List Stmt)
      → Needs blocks 0 stmt_slots (for_stmt file inner blocks t x body)
  unfolding for_stmt
  for_needs inner blocks inners t x body =
      needs_three blocks target_slots expr_slots (λ ys. most (map stmt_slots ys)) stmt_slots (target file blocks t) (expr file blocks x) (each inner [] body) (λ u y zs. s.For u y zs)
      (a_target_needs blocks t) (an_expr_needs blocks x) (needs_all blocks stmt_slots inner inners body) (λ u y zs. omega (arith, S.slots-stmt_For u y zs))

  stmt_by_needs : (inner : Bool → Stmt → Visit Stmt) (blocks : List BlockParts) (looping : Bool) → ((l : Bool) (x : Stmt) → Needs blocks 0 stmt_slots (inner l x)) → (o : Stmt-F Stmt Branch)
      → Needs blocks 0 stmt_slots (stmt_by file inner blocks looping o)
  stmt_by_needs inner blocks looping inners (Stmt-F.Simple xs) =
      needs_map blocks 0 (λ ys. most (map small_slots ys)) stmt_slots (each (small_stmt file blocks looping) [] xs) (λ ys. s.Simple ys)
      (needs_all blocks small_slots (small_stmt file blocks looping) (small_needs blocks looping) xs) (λ ys. omega (arith, S.slots-Simple ys))
  stmt_by_needs inner blocks looping inners (Stmt-F.If bs zs) = if_needs (inner looping) blocks (inners looping) bs zs
  stmt_by_needs inner blocks looping inners (Stmt-F.For t x body) = for_needs (inner true) blocks (inners true) t x body
  stmt_by_needs inner blocks looping inners (Stmt-F.Def n ps body) = needs_stop blocks 0 stmt_slots (fault_at f.BadFlow (name_line n))

  pub stmt_needs : (depth : ℕ) (blocks : List BlockParts) (looping : Bool) (x : Stmt) → Needs blocks 0 stmt_slots (stmt_to file depth blocks looping x)
  unfolding stmt_to
  stmt_needs zero blocks looping x = needs_stop blocks 0 stmt_slots (fault_at f.Nesting 0)
  stmt_needs (suc depth) blocks looping x = stmt_by_needs (stmt_to file depth blocks) blocks looping (stmt_needs depth blocks) (out-Stmt x)
