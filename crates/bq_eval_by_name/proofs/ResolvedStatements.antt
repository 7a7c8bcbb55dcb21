-- Statements resolve to what does the same.
use Rattle.std.proofs.Common.{◌≡◌, ℕ, zero, suc, Bool, true, false, ◌&&◌, List, [], ◌∷◌, inl, inr, Option, Ok, Err, refl, sym, ap, ◌∙◌, subst, arith}
use Rattle.std.specs.Prelude.{if◌then◌else◌}
use Rattle.bq_base.specs.declared.fault.NameFault.{NameFault}
use Rattle.bq_base.specs.declared.fault.Fault.{Fault}
use Rattle.bq_base.specs.declared.fault.NameFault.TheVariants as f
use Rattle.bq_parse_grammar.specs.declared.tree.Branch.{Branch, out-Branch, roll-Branch, out-roll-Branch}
use Rattle.bq_parse_grammar.specs.declared.tree.Expr.{Expr}
use Rattle.bq_parse_grammar.specs.declared.tree.Load.{Load}
use Rattle.bq_parse_grammar.specs.declared.tree.LoadClause.{LoadClause}
use Rattle.bq_parse_grammar.specs.declared.tree.SmallKind.{SmallKind}
use Rattle.bq_parse_grammar.specs.declared.tree.SmallKind.TheVariants as small
use Rattle.bq_parse_grammar.specs.declared.tree.SmallStmt.{SmallStmt}
use Rattle.bq_parse_grammar.specs.declared.tree.Stmt.{Stmt, out-Stmt, roll-Stmt, out-roll-Stmt}
use Rattle.bq_parse_grammar.specs.declared.tree.Stmt.TheOpen.{Stmt-F}
use Rattle.bq_parse_grammar.specs.declared.tree.Stmt.TheVariants as s
use Rattle.bq_parse_grammar.specs.declared.tree.TargetExpr.{TargetExpr}
use Rattle.bq_resolve_scope.specs.declared.loads.LoadedSymbol.{LoadedSymbol}
use Rattle.bq_resolve_scope.specs.Expressions.{is_bzl, expr_to}
use Rattle.bq_resolve_scope.specs.Names.{Name, max_layers, has, with_name, place_among}
use Rattle.bq_resolve_scope.specs.Scope.{BlockParts, FileParts}
use Rattle.bq_resolve_scope.specs.Statements as scope
use Rattle.bq_resolve_scope.specs.Visit.{Passed, Visit, ◌>>=◌, pure, fault_of, each, optional}
use Rattle.bq_resolve_laws.specs.Binds.{AnyOf, TargetBinds, kind_binds, SmallBinds, stmt_binds_by, StmtBindsTo}
use Rattle.bq_eval_spec.specs.Frame.{Frame}
use Rattle.bq_eval_spec.specs.Primitives.{Primitives}
use Rattle.bq_eval_spec.specs.Slots.{by_slots}
use Rattle.bq_eval_spec.specs.Statements as language
use Rattle.bq_eval_spec.specs.Trees.{Eval, StmtLayer}
use Rattle.bq_eval_spec.specs.Names.{Env, by_names}
use Rattle.bq_eval_by_name.proofs.Walks.{Pairwise, Optional, Walked, Walks, walks_bind, walks_weaker, walks_pure, walks_map, walks_two, walks_three, walks_all, walks_some, walks_optional}
use Rattle.bq_eval_by_name.proofs.Parts.{ExprAgree}
use Rattle.bq_eval_by_name.proofs.BoundNames.{IsKept}
use Rattle.bq_eval_by_name.proofs.Targets.{TargetAgree}
use Rattle.bq_eval_by_name.proofs.Statements.{RunsAlike, SmallAgree, KindAgree, small_agrees, expr_agrees, assign_agrees, augment_agrees, return_agrees, break_agrees, continue_agrees, pass_agrees, load_agrees, StmtAlike, BranchAgree, LayerAlike, simple_layer, if_layer, for_layer}
use Rattle.bq_eval_by_name.proofs.ResolvedTargets.{of_each, target_walks}

-- ---- loads

clause_by : (t u : Bool) (why other : Fault NameFault) (x : LoadedSymbol) (p q : Passed) → p.slots ≡ q.slots
    → Walked {A = LoadedSymbol} (λ _. Unit {0}) p.slots (if t then Err why else (if u then Err other else Ok (x, q)))
clause_by true u why other x p q e = tt
clause_by false true why other x p q e = tt
clause_by false false why other x p q e = (omega (arith, e), tt)

clause_walks : (file : FileParts) (blocks : List BlockParts) (x : LoadClause) → Walks {A = LoadedSymbol} blocks (λ _. Unit {0}) (scope.load_clause file x)
unfolding scope.load_clause
clause_walks file blocks x = λ p below.
    clause_by (has p.loaded x.local.name) (is_bzl file.universe.kind && has p.bound x.local.name) (fault_of f.BoundTwice x.local) (fault_of f.Rebound x.local)
    (record { local = x.local.name; symbol = x.symbol; global = place_among x.local.name file.globals }) p (record p { loaded = with_name p.loaded x.local.name }) refl

load_walks : (file : FileParts) (blocks : List BlockParts) (P : SmallKind → Type 0) → (line : ℕ) (l : Load) → P (small.Load l) → Walks {A = SmallKind} blocks P (scope.load file line l)
unfolding scope.load
load_walks file blocks P line l h =
    walks_bind blocks (λ ys. Pairwise (λ _ _. Unit {0}) l.clauses ys) P (each (scope.load_clause file) [] l.clauses) (λ xs. scope.with_load file line l xs >>= λ _. pure (small.Load l))
    (walks_all blocks (λ _ _. Unit {0}) (scope.load_clause file) (clause_walks file blocks) l.clauses)
    (λ xs _. walks_map blocks (λ _. Unit {0}) P (scope.with_load file line l xs) (λ _. small.Load l) (λ _ _. h) (λ u below. (omega arith, tt)))

load_in_walks : (file : FileParts) (blocks : List BlockParts) (P : SmallKind → Type 0) → (line : ℕ) (l : Load) → P (small.Load l) → Walks {A = SmallKind} blocks P (scope.load_in file blocks line l)
unfolding scope.load_in
load_in_walks file [] P line l h = load_walks file [] P line l h
load_in_walks file (b ∷ bs) P line l h = λ u below. tt

in_loop_walks : (file : FileParts) (blocks : List BlockParts) (P : SmallKind → Type 0) (x : SmallKind) → P x → (looping : Bool) (line : ℕ) → Walks {A = SmallKind} blocks P (scope.in_loop file looping line x)
unfolding scope.in_loop
in_loop_walks file blocks P x h true line = walks_pure blocks P x h
in_loop_walks file blocks P x h false line = λ u below. tt

module _ {S : Type 0} (m : Primitives S) (file : FileParts) (R : Env → Frame → Type 0) (E : Eval S Env) (F : Eval S Frame) where
  -- ---- small statements

  abbrev KindGood : SmallKind → SmallKind → Type 0
  KindGood k z = KindAgree m by_names by_slots R E F k z

  returned_walks : (blocks : List BlockParts) → ((x : Expr) → Walks {A = Expr} blocks (λ z. ExprAgree R E F x z) (scope.expr file blocks x)) → (line : ℕ) (x : Option Expr)
      → Walks {A = SmallKind} blocks (λ z. KindGood (small.Return x) z) (scope.returned file blocks line x)
  unfolding scope.returned
  returned_walks [] visits line x = λ u below. tt
  returned_walks (b ∷ bs) visits line x =
      walks_map (b ∷ bs) (λ y. Optional (ExprAgree R E F) x y) (λ z. KindGood (small.Return x) z) (optional (scope.expr file (b ∷ bs)) x) (λ y. small.Return y)
      (λ y h. return_agrees m by_names by_slots R E F x y h) (walks_optional (b ∷ bs) (ExprAgree R E F) (scope.expr file (b ∷ bs)) visits x)

  module _ (blocks : List BlockParts) (visits : (x : Expr) → Walks {A = Expr} blocks (λ z. ExprAgree R E F x z) (scope.expr file blocks x)) where
    abbrev Kept : Name → Type 0
    Kept name = IsKept file blocks R name

    place_walks : (t : TargetExpr) → ((name : Name) → TargetBinds name t → Kept name) → Walks {A = TargetExpr} blocks (λ u. TargetAgree m by_names by_slots R E F max_layers t u) (scope.target file blocks t)
    unfolding scope.target scope.expr TargetBinds
    place_walks t kept = target_walks m file blocks R E F (expr_to max_layers file) visits max_layers t kept

    kind_walks : (looping : Bool) (line : ℕ) (k : SmallKind) → ((name : Name) → kind_binds name k → Kept name) → Walks {A = SmallKind} blocks (λ z. KindGood k z) (scope.small_by file blocks looping line k)
    unfolding scope.assign scope.augment
    kind_walks looping line (small.Expr x) kept =
        walks_map blocks (λ z. ExprAgree R E F x z) (λ z. KindGood (small.Expr x) z) (scope.expr file blocks x) (λ y. small.Expr y) (λ y h. expr_agrees m by_names by_slots R E F x y h) (visits x)
    kind_walks looping line (small.Assign t x) kept =
        walks_two blocks (λ u. TargetAgree m by_names by_slots R E F max_layers t u) (λ z. ExprAgree R E F x z) (λ z. KindGood (small.Assign t x) z) (scope.target file blocks t) (scope.expr file blocks x)
        (λ u y. small.Assign u y) (λ u y h k. assign_agrees m by_names by_slots R E F t u x y h k) (place_walks t kept) (visits x)
    kind_walks looping line (small.Augment t o x) kept =
        walks_two blocks (λ u. TargetAgree m by_names by_slots R E F max_layers t u) (λ z. ExprAgree R E F x z) (λ z. KindGood (small.Augment t o x) z) (scope.target file blocks t) (scope.expr file blocks x)
        (λ u y. small.Augment u o y) (λ u y h k. augment_agrees m by_names by_slots R E F t u o x y h k) (place_walks t kept) (visits x)
    kind_walks looping line (small.Return x) kept = returned_walks blocks visits line x
    kind_walks looping line small.Break kept = in_loop_walks file blocks (λ z. KindGood small.Break z) small.Break (break_agrees m by_names by_slots R E F) looping line
    kind_walks looping line small.Continue kept = in_loop_walks file blocks (λ z. KindGood small.Continue z) small.Continue (continue_agrees m by_names by_slots R E F) looping line
    kind_walks looping line small.Pass kept = walks_pure blocks (λ z. KindGood small.Pass z) small.Pass (pass_agrees m by_names by_slots R E F)
    kind_walks looping line (small.Load l) kept = load_in_walks file blocks (λ z. KindGood (small.Load l) z) line l (load_agrees m by_names by_slots R E F l)

    small_walks : (looping : Bool) (x : SmallStmt) → ((name : Name) → SmallBinds name x → Kept name) → Walks {A = SmallStmt} blocks (λ z. SmallAgree m by_names by_slots R E F x z) (scope.small_stmt file blocks looping x)
    unfolding scope.small_stmt SmallBinds
    small_walks looping x kept =
        walks_map blocks (λ k. KindGood x.kind k) (λ z. SmallAgree m by_names by_slots R E F x z) (scope.small_by file blocks looping x.line x.kind) (λ k. record x { kind = k })
        (λ k h. small_agrees m by_names by_slots R E F x (record x { kind = k }) h) (kind_walks looping x.line x.kind kept)

    -- the small statements of a line
    pub line_walks : (looping : Bool) (xs : List SmallStmt) → ((name : Name) → AnyOf (SmallBinds name) xs → Kept name)
        → Walks {A = List SmallStmt} blocks (λ ys. Pairwise (SmallAgree m by_names by_slots R E F) xs ys) (each (scope.small_stmt file blocks looping) [] xs)
    line_walks looping xs kept =
        walks_some blocks (SmallAgree m by_names by_slots R E F) (λ x. (name : Name) → SmallBinds name x → Kept name) (scope.small_stmt file blocks looping) (small_walks looping) xs (of_each Kept SmallBinds xs kept)

    -- ---- statements

    abbrev pub StmtGood : ℕ → Stmt → Stmt → Type 0
    StmtGood n x z = RunsAlike m by_names by_slots R (language.run_to n m by_names E x) (language.run_to n m by_slots F z)

    abbrev pub KeptIn : ℕ → Stmt → Type 0
    KeptIn n x = (name : Name) → StmtBindsTo n name x → Kept name

    -- a statement's outermost layer
    abbrev LayerGood : ℕ → StmtLayer → StmtLayer → Type 0
    LayerGood n o p = LayerAlike m by_names by_slots R E F (language.run_to n m by_names E) (language.run_to n m by_slots F) o p

    stmt_good : (n : ℕ) (x z : Stmt) → LayerGood n (out-Stmt x) (out-Stmt z) → StmtGood (suc n) x z
    unfolding language.run_to language.stmt
    stmt_good n x z h = h

    made : (n : ℕ) (o : StmtLayer) (z : Stmt) (p : StmtLayer) → roll-Stmt p ≡ z → LayerGood n o p → LayerGood n o (out-Stmt z)
    made n o z p e h = subst (λ w. LayerGood n o w) (sym (out-roll-Stmt p) ∙ ap out-Stmt e) h

    -- those of a block
    module _ (n : ℕ) (inner : Bool → Stmt → Visit Stmt) (inners : (looping : Bool) (x : Stmt) → KeptIn n x → Walks {A = Stmt} blocks (λ z. StmtGood n x z) (inner looping x)) where
      abbrev Same : Stmt → Stmt → Type 0
      Same x z = StmtAlike m by_names by_slots R E F (language.run_to n m by_names E) (language.run_to n m by_slots F) x z

      abbrev BranchSame : Branch → Branch → Type 0
      BranchSame b d = BranchAgree m by_names by_slots R E F (language.run_to n m by_names E) (language.run_to n m by_slots F) b d

      pub block_walks : (looping : Bool) (xs : List Stmt) → ((name : Name) → AnyOf (StmtBindsTo n name) xs → Kept name) → Walks {A = List Stmt} blocks (λ zs. Pairwise Same xs zs) (each (inner looping) [] xs)
      block_walks looping xs kept = walks_some blocks Same (KeptIn n) (inner looping) (inners looping) xs (of_each Kept (StmtBindsTo n) xs kept)

      made_branch : (b : Branch) (y : Expr) (zs : List Stmt) → ExprAgree R E F (out-Branch b).condition y → Pairwise Same (out-Branch b).block zs → BranchSame b (roll-Branch (record { condition = y; block = zs }))
      made_branch b y zs h k =
          subst (λ d. ExprAgree R E F (out-Branch b).condition d.condition × Pairwise Same (out-Branch b).block d.block) (sym (out-roll-Branch (record { condition = y; block = zs }))) (h, k)

      branch_walks : (looping : Bool) (b : Branch) → ((name : Name) → AnyOf (StmtBindsTo n name) (out-Branch b).block → Kept name)
          → Walks {A = Branch} blocks (λ d. BranchSame b d) (scope.branch file (inner looping) blocks b)
      unfolding scope.branch
      branch_walks looping b kept =
          walks_two blocks (λ z. ExprAgree R E F (out-Branch b).condition z) (λ zs. Pairwise Same (out-Branch b).block zs) (λ d. BranchSame b d)
          (scope.expr file blocks (out-Branch b).condition) (each (inner looping) [] (out-Branch b).block) (λ y zs. roll-Branch (record { condition = y; block = zs })) (made_branch b)
          (visits (out-Branch b).condition) (block_walks looping (out-Branch b).block kept)

      branches_walk : (looping : Bool) (bs : List Branch) → ((name : Name) → AnyOf (λ b. AnyOf (StmtBindsTo n name) (out-Branch b).block) bs → Kept name)
          → Walks {A = List Branch} blocks (λ ds. Pairwise BranchSame bs ds) (each (scope.branch file (inner looping) blocks) [] bs)
      branches_walk looping bs kept =
          walks_some blocks BranchSame (λ b. (name : Name) → AnyOf (StmtBindsTo n name) (out-Branch b).block → Kept name) (scope.branch file (inner looping) blocks) (branch_walks looping) bs
          (of_each Kept (λ name b. AnyOf (StmtBindsTo n name) (out-Branch b).block) bs kept)

      stmt_by_walks : (looping : Bool) (o : StmtLayer) → ((name : Name) → stmt_binds_by (StmtBindsTo n name) name o → Kept name)
          → Walks {A = Stmt} blocks (λ z. LayerGood n o (out-Stmt z)) (scope.stmt_by file inner blocks looping o)
      unfolding scope.if_stmt scope.for_stmt
      stmt_by_walks looping (Stmt-F.Simple xs) kept =
          walks_map blocks (λ ys. Pairwise (SmallAgree m by_names by_slots R E F) xs ys) (λ z. LayerGood n (Stmt-F.Simple xs) (out-Stmt z)) (each (scope.small_stmt file blocks looping) [] xs)
          (λ ys. s.Simple ys)
          (λ ys h. made n (Stmt-F.Simple xs) (s.Simple ys) (Stmt-F.Simple ys) (s.rolls-Simple ys) (simple_layer m by_names by_slots R E F (language.run_to n m by_names E) (language.run_to n m by_slots F) xs ys h))
          (line_walks looping xs kept)
      stmt_by_walks looping (Stmt-F.If bs xs) kept =
          walks_two blocks (λ ds. Pairwise BranchSame bs ds) (λ zs. Pairwise Same xs zs) (λ z. LayerGood n (Stmt-F.If bs xs) (out-Stmt z))
          (each (scope.branch file (inner looping) blocks) [] bs) (each (inner looping) [] xs) (λ ds zs. s.If ds zs)
          (λ ds zs h k. made n (Stmt-F.If bs xs) (s.If ds zs) (Stmt-F.If ds zs) (s.rolls-If ds zs)
          (if_layer m by_names by_slots R E F (language.run_to n m by_names E) (language.run_to n m by_slots F) bs ds h xs zs k))
          (branches_walk looping bs (λ name at. kept name (inl at))) (block_walks looping xs (λ name at. kept name (inr at)))
      stmt_by_walks looping (Stmt-F.For t x xs) kept =
          walks_three blocks (λ u. TargetAgree m by_names by_slots R E F max_layers t u) (λ z. ExprAgree R E F x z) (λ zs. Pairwise Same xs zs)
          (λ z. LayerGood n (Stmt-F.For t x xs) (out-Stmt z)) (scope.target file blocks t) (scope.expr file blocks x) (each (inner true) [] xs) (λ u y zs. s.For u y zs)
          (λ u y zs h k l. made n (Stmt-F.For t x xs) (s.For u y zs) (Stmt-F.For u y zs) (s.rolls-For u y zs)
          (for_layer m by_names by_slots R E F (language.run_to n m by_names E) (language.run_to n m by_slots F) t u x y xs zs h k l))
          (place_walks t (λ name at. kept name (inl at))) (visits x) (block_walks true xs (λ name at. kept name (inr at)))
      stmt_by_walks looping (Stmt-F.Def i ps xs) kept = λ u below. tt

    pub stmt_walks : (n : ℕ) (looping : Bool) (x : Stmt) → KeptIn n x → Walks {A = Stmt} blocks (λ z. StmtGood n x z) (scope.stmt_to file n blocks looping x)
    unfolding scope.stmt_to StmtBindsTo
    stmt_walks zero looping x kept = λ u below. tt
    stmt_walks (suc n) looping x kept =
        walks_weaker blocks (λ z. LayerGood n (out-Stmt x) (out-Stmt z)) (λ z. StmtGood (suc n) x z) (scope.stmt_by file (scope.stmt_to file n blocks) blocks looping (out-Stmt x)) (stmt_good n x)
        (stmt_by_walks n (scope.stmt_to file n blocks) (stmt_walks n) looping (out-Stmt x) kept)
