-- Statements of functions list the slots of their uses.
use Rattle.std.proofs.Common.{◌≡◌, ℕ, zero, suc, Bool, true, false, List, [], ◌∷◌, map, Option, Some, None, refl}
use Rattle.bq_base.specs.declared.fault.NameFault.TheVariants as f
use Rattle.bq_base.specs.Fault.{fault_at}
use Rattle.bq_parse_grammar.specs.declared.tree.Branch.{Branch, out-Branch, roll-Branch}
use Rattle.bq_parse_grammar.specs.declared.tree.Expr.{Expr}
use Rattle.bq_parse_grammar.specs.declared.tree.Load.{Load}
use Rattle.bq_parse_grammar.specs.declared.tree.Operator.{Operator}
use Rattle.bq_parse_grammar.specs.declared.tree.SmallKind.{SmallKind}
use Rattle.bq_parse_grammar.specs.declared.tree.SmallKind.TheVariants as small
use Rattle.bq_parse_grammar.specs.declared.tree.SmallStmt.{SmallStmt}
use Rattle.bq_parse_grammar.specs.declared.tree.Stmt.{Stmt, out-Stmt}
use Rattle.bq_parse_grammar.specs.declared.tree.Stmt.TheOpen.{Stmt-F}
use Rattle.bq_parse_grammar.specs.declared.tree.Stmt.TheVariants as s
use Rattle.bq_parse_grammar.specs.declared.tree.TargetExpr.{TargetExpr}
use Rattle.bq_parse_grammar.specs.Literals.{name_line}
use Rattle.bq_resolve_scope.specs.Scope.{BlockParts, FileParts}
use Rattle.bq_resolve_scope.specs.Visit.{Visit, each, optional}
use Rattle.bq_resolve_scope.specs.Statements.{expr, target, assign, augment, returned, load_in, in_loop, small_by, small_stmt, branch, if_stmt, for_stmt, stmt_by, stmt_to}
use Rattle.bq_resolve_laws.specs.Slots.Slots.{all, branch_slots, expr_slots, kind_slots, small_slots, stmt_slots, target_slots}
use Rattle.bq_resolve_laws.specs.Slots.Uses as uses
use Rattle.bq_resolve_laws.specs.Slots.Uses.{Block, Part, both}
use Rattle.bq_resolve_laws.proofs.Slots.Expressions.{an_expr_lists, a_target_lists}
use Rattle.bq_resolve_laws.proofs.Slots.Lists.{Lists, lists_all, lists_map, lists_optional, lists_pure, lists_stop, lists_three, lists_two}
use Rattle.bq_resolve_laws.proofs.Slots.Steps as S
use Rattle.bq_resolve_laws.proofs.Slots.Steps.{part_slots}

module _ (file : FileParts) where
  -- ---- small statements

  assign_lists : (rs : List Block) (bs : List BlockParts) (t : TargetExpr) (x : Expr) → Lists rs bs [] kind_slots (both (uses.target rs t) (uses.expr rs x)) (assign file bs t x)
  unfolding assign
  assign_lists rs bs t x =
      lists_two rs bs target_slots expr_slots kind_slots (uses.target rs t) (uses.expr rs x) (target file bs t) (expr file bs x) (λ u y. small.Assign u y) (a_target_lists file rs bs t) (an_expr_lists file rs bs x) (λ u y. refl)

  augment_lists : (rs : List Block) (bs : List BlockParts) (t : TargetExpr) (o : Operator) (x : Expr) → Lists rs bs [] kind_slots (both (uses.target rs t) (uses.expr rs x)) (augment file bs t o x)
  unfolding augment
  augment_lists rs bs t o x =
      lists_two rs bs target_slots expr_slots kind_slots (uses.target rs t) (uses.expr rs x) (target file bs t) (expr file bs x) (λ u y. small.Augment u o y) (a_target_lists file rs bs t) (an_expr_lists file rs bs x) (λ u y. refl)

  return_slots : (y : Option Expr) → kind_slots (small.Return y) ≡ part_slots y
  return_slots None = refl
  return_slots (Some x) = refl

  returned_lists : (rs : List Block) (bs : List BlockParts) (line : ℕ) (x : Option Expr) → Lists rs bs [] kind_slots (uses.optional (uses.expr rs) x) (returned file bs line x)
  unfolding returned
  returned_lists rs [] line x = lists_stop rs [] [] kind_slots (uses.optional (uses.expr rs) x) (fault_at f.BadFlow line)
  returned_lists rs (b ∷ bs) line x =
      lists_map rs (b ∷ bs) [] part_slots kind_slots (uses.optional (uses.expr rs) x) (optional (expr file (b ∷ bs)) x) (λ y. small.Return y)
      (lists_optional rs (b ∷ bs) expr_slots part_slots (uses.expr rs) (expr file (b ∷ bs)) refl (λ _. refl) (an_expr_lists file rs (b ∷ bs)) x) return_slots

  in_loop_lists : (rs : List Block) (bs : List BlockParts) (looping : Bool) (line : ℕ) (x : SmallKind) → kind_slots x ≡ [] → Lists rs bs [] kind_slots uses.nothing (in_loop file looping line x)
  unfolding in_loop
  in_loop_lists rs bs true line x h = lists_pure rs bs [] kind_slots x h
  in_loop_lists rs bs false line x h = lists_stop rs bs [] kind_slots uses.nothing (fault_at f.BadFlow line)

  -- no `load` stands in a function
  load_lists : (rs : List Block) (bs : List BlockParts) (line : ℕ) (l : Load) → Lists rs bs [] kind_slots uses.nothing (load_in file bs line l)
  unfolding load_in
  load_lists rs [] line l opened s t x inside fits h = absurd inside
  load_lists rs (b ∷ bs) line l opened s t x inside fits h = lists_stop rs (b ∷ bs) [] kind_slots uses.nothing (fault_at f.BadFlow line) opened s t x inside fits h

  small_by_lists : (rs : List Block) (bs : List BlockParts) (looping : Bool) (line : ℕ) (k : SmallKind) → Lists rs bs [] kind_slots (uses.small_by rs k) (small_by file bs looping line k)
  small_by_lists rs bs looping line (small.Expr x) = lists_map rs bs [] expr_slots kind_slots (uses.expr rs x) (expr file bs x) (λ y. small.Expr y) (an_expr_lists file rs bs x) (λ y. refl)
  small_by_lists rs bs looping line (small.Assign t x) = assign_lists rs bs t x
  small_by_lists rs bs looping line (small.Augment t o x) = augment_lists rs bs t o x
  small_by_lists rs bs looping line (small.Return x) = returned_lists rs bs line x
  small_by_lists rs bs looping line small.Break = in_loop_lists rs bs looping line small.Break refl
  small_by_lists rs bs looping line small.Continue = in_loop_lists rs bs looping line small.Continue refl
  small_by_lists rs bs looping line small.Pass = lists_pure rs bs [] kind_slots small.Pass refl
  small_by_lists rs bs looping line (small.Load l) = load_lists rs bs line l

  small_lists : (rs : List Block) (bs : List BlockParts) (looping : Bool) (x : SmallStmt) → Lists rs bs [] small_slots (uses.small_stmt rs x) (small_stmt file bs looping x)
  unfolding small_stmt
  small_lists rs bs looping x =
      lists_map rs bs [] kind_slots small_slots (uses.small_stmt rs x) (small_by file bs looping x.line x.kind) (λ k. record x { kind = k }) (small_by_lists rs bs looping x.line x.kind) (λ k. refl)

  -- ---- statements with blocks

  module _ (inner : Stmt → Visit Stmt) (part : Stmt → Part) (rs : List Block) (bs : List BlockParts) (inners : (x : Stmt) → Lists rs bs [] stmt_slots (part x) (inner x)) where
    branch_lists : (b : Branch) → Lists rs bs [] branch_slots (uses.branch part rs b) (branch file inner bs b)
    unfolding branch
    branch_lists b =
        lists_two rs bs expr_slots (λ ys. all (map stmt_slots ys)) branch_slots (uses.expr rs (out-Branch b).condition) (uses.all part (out-Branch b).block) (expr file bs (out-Branch b).condition) (each inner [] (out-Branch b).block)
        (λ x ys. roll-Branch (record { condition = x; block = ys })) (an_expr_lists file rs bs (out-Branch b).condition) (lists_all rs bs stmt_slots part inner inners (out-Branch b).block) S.slots-branch

    if_lists : (cs : List Branch) (zs : List Stmt) → Lists rs bs [] stmt_slots (both (uses.all (uses.branch part rs) cs) (uses.all part zs)) (if_stmt file inner bs cs zs)
    unfolding if_stmt
    if_lists cs zs =
        lists_two rs bs (λ xs. all (map branch_slots xs)) (λ ys. all (map stmt_slots ys)) stmt_slots (uses.all (uses.branch part rs) cs) (uses.all part zs) (each (branch file inner bs) [] cs) (each inner [] zs) (λ xs ys. s.If xs ys)
        (lists_all rs bs branch_slots (uses.branch part rs) (branch file inner bs) branch_lists cs) (lists_all rs bs stmt_slots part inner inners zs) S.slots-stmt_If

    for_lists : (t : TargetExpr) (x : Expr) (body : List Stmt) → Lists rs bs [] stmt_slots (both (uses.target rs t) (both (uses.expr rs x) (uses.all part body))) (for_stmt file inner bs t x body)
    unfolding for_stmt
    for_lists t x body =
        lists_three rs bs target_slots expr_slots (λ ys. all (map stmt_slots ys)) stmt_slots (uses.target rs t) (uses.expr rs x) (uses.all part body) (target file bs t) (expr file bs x) (each inner [] body) (λ u y zs. s.For u y zs)
        (a_target_lists file rs bs t) (an_expr_lists file rs bs x) (lists_all rs bs stmt_slots part inner inners body) S.slots-stmt_For

  stmt_by_lists : (inner : Bool → Stmt → Visit Stmt) (part : Stmt → Part) (rs : List Block) (bs : List BlockParts) (looping : Bool) → ((l : Bool) (x : Stmt) → Lists rs bs [] stmt_slots (part x) (inner l x)) → (o : Stmt-F Stmt Branch)
      → Lists rs bs [] stmt_slots (uses.stmt_by part rs o) (stmt_by file inner bs looping o)
  stmt_by_lists inner part rs bs looping inners (Stmt-F.Simple xs) =
      lists_map rs bs [] (λ ys. all (map small_slots ys)) stmt_slots (uses.all (uses.small_stmt rs) xs) (each (small_stmt file bs looping) [] xs) (λ ys. s.Simple ys)
      (lists_all rs bs small_slots (uses.small_stmt rs) (small_stmt file bs looping) (small_lists rs bs looping) xs) S.slots-Simple
  stmt_by_lists inner part rs bs looping inners (Stmt-F.If cs zs) = if_lists (inner looping) part rs bs (inners looping) cs zs
  stmt_by_lists inner part rs bs looping inners (Stmt-F.For t x body) = for_lists (inner true) part rs bs (inners true) t x body
  stmt_by_lists inner part rs bs looping inners (Stmt-F.Def n ps body) = lists_stop rs bs [] stmt_slots uses.nothing (fault_at f.BadFlow (name_line n))

  pub stmt_lists : (layers : ℕ) (rs : List Block) (bs : List BlockParts) (looping : Bool) (x : Stmt) → Lists rs bs [] stmt_slots (uses.stmt_to layers rs x) (stmt_to file layers bs looping x)
  unfolding stmt_to uses.stmt_to
  stmt_lists zero rs bs looping x = lists_stop rs bs [] stmt_slots (uses.stmt_to zero rs x) (fault_at f.Nesting 0)
  stmt_lists (suc layers) rs bs looping x = stmt_by_lists (stmt_to file layers bs) (uses.stmt_to layers rs) rs bs looping (stmt_lists layers rs bs) (out-Stmt x)
