-- A statement of a function resolves to one of the same form: what is measured of it stays as it was.
use Rattle.std.proofs.Common.{◌≡◌, ◌∙◌, ℕ, zero, suc, Bool, true, false, ◌&&◌, List, [], ◌∷◌, map, Option, Ok, Err, refl, sym, ap}
use Rattle.std.specs.Prelude.{if◌then◌else◌}
use Rattle.std.specs.List.{AllByRecursion}
use Rattle.std.specs.Option.{option_map}
use Rattle.bq_base.specs.declared.fault.NameFault.{NameFault}
use Rattle.bq_base.specs.declared.fault.Fault.{Fault}
use Rattle.bq_base.specs.declared.fault.NameFault.TheVariants as f
use Rattle.bq_parse_grammar.specs.declared.tree.Branch.{Branch, out-Branch, roll-Branch}
use Rattle.bq_parse_grammar.specs.declared.tree.Expr.{Expr}
use Rattle.bq_parse_grammar.specs.declared.tree.Load.{Load}
use Rattle.bq_parse_grammar.specs.declared.tree.LoadClause.{LoadClause}
use Rattle.bq_parse_grammar.specs.declared.tree.Operator.{Operator}
use Rattle.bq_parse_grammar.specs.declared.tree.SmallKind.{SmallKind}
use Rattle.bq_parse_grammar.specs.declared.tree.SmallKind.TheVariants as small
use Rattle.bq_parse_grammar.specs.declared.tree.SmallStmt.{SmallStmt}
use Rattle.bq_parse_grammar.specs.declared.tree.Stmt.{Stmt, out-Stmt}
use Rattle.bq_parse_grammar.specs.declared.tree.Stmt.TheOpen.{Stmt-F}
use Rattle.bq_parse_grammar.specs.declared.tree.Stmt.TheVariants as s
use Rattle.bq_parse_grammar.specs.declared.tree.TargetExpr.{TargetExpr}
use Rattle.bq_resolve_scope.specs.declared.file.Function.{Function}
use Rattle.bq_resolve_scope.specs.declared.loads.LoadedSymbol.{LoadedSymbol}
use Rattle.bq_resolve_scope.specs.Names.{max_layers, has, with_name, place_among}
use Rattle.bq_resolve_scope.specs.Scope.{BlockParts, FileParts}
use Rattle.bq_resolve_scope.specs.Visit.{Passed, Visit, ◌>>=◌, pure, fault_of, each, optional}
use Rattle.bq_resolve_scope.specs.Expressions.{is_bzl, expr_to}
use Rattle.bq_resolve_scope.specs.Statements.{expr, target, load_clause, with_load, load, assign, augment, returned, load_in, in_loop, small_by, small_stmt, branch, if_stmt, for_stmt, stmt_by, stmt_to}
use Rattle.bq_eval_spec.specs.Trees.{StmtLayer}
use Rattle.bq_eval_laws.proofs.Gives.{FunctionsAre, Giving, Gives, gives_bind, gives_as, gives_map, gives_two, gives_three, gives_each, gives_every, gives_optional}
use Rattle.bq_eval_laws.proofs.KeptExpressions.{two, target_keeps, expr_keeps}
use Rattle.bq_eval_laws.proofs.Measures.{Measure, before, HasNoTree, StmtMeasure, expr_of, target_of, stmt_of, branch_of, stmt_inside, made_stmt, opened_stmt, made_branch, opened_branch}

module _ (F : Function → Type 0) (file : FileParts) where
  -- ---- loads, which hold no tree

  clause_by : (q r : Bool) (why other : Fault NameFault) (x : LoadedSymbol) (l : Passed → Passed) → ((u : Passed) → FunctionsAre F u → FunctionsAre F (l u)) → (u : Passed) → FunctionsAre F u
      → Giving F {A = LoadedSymbol} (λ _. Unit {0}) (if q then Err why else (if r then Err other else Ok (x, l u)))
  clause_by true r why other x l keeps u fit = tt
  clause_by false true why other x l keeps u fit = tt
  clause_by false false why other x l keeps u fit = (tt, keeps u fit)

  load_clause_gives : (x : LoadClause) → Gives F {A = LoadedSymbol} (λ _. Unit {0}) (load_clause file x)
  unfolding load_clause
  load_clause_gives x u fit =
      clause_by (has u.loaded x.local.name) (is_bzl file.universe.kind && has u.bound x.local.name) (fault_of f.BoundTwice x.local) (fault_of f.Rebound x.local)
      (record { local = x.local.name; symbol = x.symbol; global = place_among x.local.name file.globals }) (λ p. record p { loaded = with_name p.loaded x.local.name }) (λ p h. h) u fit

  every_clause : (xs : List LoadClause) → AllByRecursion (λ _. Unit {0}) xs
  every_clause [] = tt
  every_clause (x ∷ xs) = (tt, every_clause xs)

  load_gives : (line : ℕ) (l : Load) → Gives F {A = SmallKind} (λ k. k ≡ small.Load l) (load file line l)
  unfolding load
  load_gives line l =
      gives_bind F (λ ys. AllByRecursion (λ _. Unit {0}) ys) (λ k. k ≡ small.Load l) (each (load_clause file) [] l.clauses) (λ xs. with_load file line l xs >>= λ _. pure (small.Load l))
      (gives_every F (λ _. Unit {0}) (λ _. Unit {0}) (load_clause file) (λ x _. load_clause_gives x) [] l.clauses tt (every_clause l.clauses))
      (λ xs _. gives_map F (λ _. Unit {0}) (λ k. k ≡ small.Load l) (with_load file line l xs) (λ _. small.Load l) (λ u fit. (tt, fit)) (λ _ _. refl))

  module _ {A C E S T H O P W D B : Type 0} (M : Measure A C E S T H O P) (N : StmtMeasure M W D B) where
    pub an_expr_keeps : (blocks : List BlockParts) (x : Expr) → Gives F {A = Expr} (λ y. expr_of M.after y ≡ expr_of (before M) x) (expr file blocks x)
    unfolding expr
    an_expr_keeps blocks x = expr_keeps F M max_layers file blocks x

    a_target_keeps : (blocks : List BlockParts) (t : TargetExpr) → Gives F {A = TargetExpr} (λ u. target_of M.after u ≡ target_of (before M) t) (target file blocks t)
    unfolding target
    a_target_keeps blocks t = target_keeps F M file (expr_to max_layers file) (expr_keeps F M max_layers file) max_layers blocks t

    -- ---- small statements

    -- the same is measured of these two on one line
    abbrev Alike : ℕ → SmallKind → SmallKind → Type 0
    Alike line k j = N.later.small_step (record { line = line; kind = j }) ≡ N.earlier.small_step (record { line = line; kind = k })

    assign_keeps : (blocks : List BlockParts) (line : ℕ) (t : TargetExpr) (x : Expr) → Gives F {A = SmallKind} (Alike line (small.Assign t x)) (assign file blocks t x)
    unfolding assign
    assign_keeps blocks line t x =
        gives_two F (λ u. target_of M.after u ≡ target_of (before M) t) (λ y. expr_of M.after y ≡ expr_of (before M) x) (Alike line (small.Assign t x)) (target file blocks t) (expr file blocks x) (λ u y. small.Assign u y)
        (a_target_keeps blocks t) (an_expr_keeps blocks x) (λ u y h k. N.of_assign line t u x y h k)

    augment_keeps : (blocks : List BlockParts) (line : ℕ) (t : TargetExpr) (o : Operator) (x : Expr) → Gives F {A = SmallKind} (Alike line (small.Augment t o x)) (augment file blocks t o x)
    unfolding augment
    augment_keeps blocks line t o x =
        gives_two F (λ u. target_of M.after u ≡ target_of (before M) t) (λ y. expr_of M.after y ≡ expr_of (before M) x) (Alike line (small.Augment t o x)) (target file blocks t) (expr file blocks x) (λ u y. small.Augment u o y)
        (a_target_keeps blocks t) (an_expr_keeps blocks x) (λ u y h k. N.of_augment line t u o x y h k)

    returned_keeps : (blocks : List BlockParts) (line : ℕ) (x : Option Expr) → Gives F {A = SmallKind} (Alike line (small.Return x)) (returned file blocks line x)
    unfolding returned
    returned_keeps [] line x = λ u fit. tt
    returned_keeps (d ∷ ds) line x =
        gives_map F (λ y. option_map (expr_of M.after) y ≡ option_map (expr_of (before M)) x) (Alike line (small.Return x)) (optional (expr file (d ∷ ds)) x) (λ y. small.Return y)
        (gives_optional F (expr_of M.after) (expr_of (before M)) (expr file (d ∷ ds)) (an_expr_keeps (d ∷ ds)) x) (λ y h. N.of_return line x y h)

    load_keeps : (blocks : List BlockParts) (line : ℕ) (l : Load) → Gives F {A = SmallKind} (Alike line (small.Load l)) (load_in file blocks line l)
    unfolding load_in
    load_keeps [] line l = gives_as F {A = SmallKind} (λ k. k ≡ small.Load l) (Alike line (small.Load l)) (λ k h. ap (λ j. N.later.small_step (record { line = line; kind = j })) h ∙ N.of_rest line (small.Load l) tt) (load file line l) (load_gives line l)
    load_keeps (d ∷ ds) line l = λ u fit. tt

    in_loop_keeps : (looping : Bool) (line : ℕ) (k : SmallKind) → HasNoTree k → Gives F {A = SmallKind} (Alike line k) (in_loop file looping line k)
    unfolding in_loop
    in_loop_keeps true line k none = λ u fit. (N.of_rest line k none, fit)
    in_loop_keeps false line k none = λ u fit. tt

    small_by_keeps : (blocks : List BlockParts) (looping : Bool) (line : ℕ) (k : SmallKind) → Gives F {A = SmallKind} (Alike line k) (small_by file blocks looping line k)
    small_by_keeps blocks looping line (small.Expr x) =
        gives_map F (λ y. expr_of M.after y ≡ expr_of (before M) x) (Alike line (small.Expr x)) (expr file blocks x) (λ y. small.Expr y) (an_expr_keeps blocks x) (λ y h. N.of_expr line x y h)
    small_by_keeps blocks looping line (small.Assign t x) = assign_keeps blocks line t x
    small_by_keeps blocks looping line (small.Augment t o x) = augment_keeps blocks line t o x
    small_by_keeps blocks looping line (small.Return x) = returned_keeps blocks line x
    small_by_keeps blocks looping line small.Break = in_loop_keeps looping line small.Break tt
    small_by_keeps blocks looping line small.Continue = in_loop_keeps looping line small.Continue tt
    small_by_keeps blocks looping line small.Pass = λ u fit. (N.of_rest line small.Pass tt, fit)
    small_by_keeps blocks looping line (small.Load l) = load_keeps blocks line l

    small_keeps : (blocks : List BlockParts) (looping : Bool) (x : SmallStmt) → Gives F {A = SmallStmt} (λ y. N.later.small_step y ≡ N.earlier.small_step x) (small_stmt file blocks looping x)
    unfolding small_stmt
    small_keeps blocks looping x =
        gives_map F (Alike x.line x.kind) (λ y. N.later.small_step y ≡ N.earlier.small_step x) (small_by file blocks looping x.line x.kind) (λ k. record x { kind = k }) (small_by_keeps blocks looping x.line x.kind)
        (λ k h. h)

    pub line_keeps : (blocks : List BlockParts) (looping : Bool) (xs : List SmallStmt)
        → Gives F {A = List SmallStmt} (λ ys. map N.later.small_step ys ≡ map N.earlier.small_step xs) (each (small_stmt file blocks looping) [] xs)
    line_keeps blocks looping xs = gives_each F N.later.small_step N.earlier.small_step (small_stmt file blocks looping) (small_keeps blocks looping) [] xs

    -- ---- statements with blocks

    module _ (inner : Stmt → Visit Stmt) (inners : (x : Stmt) → Gives F {A = Stmt} (λ y. stmt_of N.later y ≡ stmt_of N.earlier x) (inner x)) (blocks : List BlockParts) where
      block_keeps : (xs : List Stmt) → Gives F {A = List Stmt} (λ ys. map (stmt_of N.later) ys ≡ map (stmt_of N.earlier) xs) (each inner [] xs)
      block_keeps xs = gives_each F (stmt_of N.later) (stmt_of N.earlier) inner inners [] xs

      branch_keeps : (x : Branch) → Gives F {A = Branch} (λ z. branch_of N.later z ≡ branch_of N.earlier x) (branch file inner blocks x)
      unfolding branch
      branch_keeps x =
          let condition : Expr = (out-Branch x).condition in
          let block : List Stmt = (out-Branch x).block in
          gives_two F (λ y. expr_of M.after y ≡ expr_of (before M) condition) (λ ys. map (stmt_of N.later) ys ≡ map (stmt_of N.earlier) block) (λ z. branch_of N.later z ≡ branch_of N.earlier x)
          (expr file blocks condition) (each inner [] block) (λ y ys. roll-Branch (record { condition = y; block = ys })) (an_expr_keeps blocks condition) (block_keeps block)
          (λ y ys h k. made_branch N.later y ys
          ∙ (ap (λ l. N.later.branch_step (record { condition = y; block = l })) k ∙ (N.of_branch condition y (map (stmt_of N.earlier) block) h ∙ sym (opened_branch N.earlier x))))

      if_keeps : (bs : List Branch) (zs : List Stmt)
          → Gives F {A = Stmt} (λ z. stmt_of N.later z ≡ N.earlier.stmt_step (Stmt-F.If (map (branch_of N.earlier) bs) (map (stmt_of N.earlier) zs))) (if_stmt file inner blocks bs zs)
      unfolding if_stmt
      if_keeps bs zs =
          gives_two F (λ xs. map (branch_of N.later) xs ≡ map (branch_of N.earlier) bs) (λ ys. map (stmt_of N.later) ys ≡ map (stmt_of N.earlier) zs)
          (λ z. stmt_of N.later z ≡ N.earlier.stmt_step (Stmt-F.If (map (branch_of N.earlier) bs) (map (stmt_of N.earlier) zs))) (each (branch file inner blocks) [] bs) (each inner [] zs) (λ xs ys. s.If xs ys)
          (gives_each F (branch_of N.later) (branch_of N.earlier) (branch file inner blocks) branch_keeps [] bs) (block_keeps zs)
          (λ xs ys h k. made_stmt N.later (s.If xs ys) (Stmt-F.If xs ys) (s.rolls-If xs ys)
          ∙ (two (λ c d. N.later.stmt_step (Stmt-F.If c d)) (map (branch_of N.later) xs) (map (branch_of N.earlier) bs) (map (stmt_of N.later) ys) (map (stmt_of N.earlier) zs) h k
          ∙ N.of_if (map (branch_of N.earlier) bs) (map (stmt_of N.earlier) zs)))

      for_keeps : (t : TargetExpr) (x : Expr) (body : List Stmt) → Gives F {A = Stmt} (λ z. stmt_of N.later z ≡ N.earlier.stmt_step (Stmt-F.For t x (map (stmt_of N.earlier) body))) (for_stmt file inner blocks t x body)
      unfolding for_stmt
      for_keeps t x body =
          gives_three F (λ u. target_of M.after u ≡ target_of (before M) t) (λ y. expr_of M.after y ≡ expr_of (before M) x) (λ ys. map (stmt_of N.later) ys ≡ map (stmt_of N.earlier) body)
          (λ z. stmt_of N.later z ≡ N.earlier.stmt_step (Stmt-F.For t x (map (stmt_of N.earlier) body))) (target file blocks t) (expr file blocks x) (each inner [] body) (λ u y ys. s.For u y ys)
          (a_target_keeps blocks t) (an_expr_keeps blocks x) (block_keeps body)
          (λ u y ys h k l. made_stmt N.later (s.For u y ys) (Stmt-F.For u y ys) (s.rolls-For u y ys)
          ∙ (ap (λ c. N.later.stmt_step (Stmt-F.For u y c)) l ∙ N.of_loop t u x y (map (stmt_of N.earlier) body) h k))

    stmt_by_keeps : (inner : Bool → Stmt → Visit Stmt) → ((l : Bool) (x : Stmt) → Gives F {A = Stmt} (λ y. stmt_of N.later y ≡ stmt_of N.earlier x) (inner l x)) → (blocks : List BlockParts) (looping : Bool) (o : StmtLayer)
        → Gives F {A = Stmt} (λ z. stmt_of N.later z ≡ N.earlier.stmt_step (stmt_inside N.earlier o)) (stmt_by file inner blocks looping o)
    stmt_by_keeps inner inners blocks looping (Stmt-F.Simple xs) =
        gives_map F (λ ys. map N.later.small_step ys ≡ map N.earlier.small_step xs) (λ z. stmt_of N.later z ≡ N.earlier.stmt_step (Stmt-F.Simple xs)) (each (small_stmt file blocks looping) [] xs) (λ ys. s.Simple ys)
        (line_keeps blocks looping xs) (λ ys h. made_stmt N.later (s.Simple ys) (Stmt-F.Simple ys) (s.rolls-Simple ys) ∙ N.of_line xs ys h)
    stmt_by_keeps inner inners blocks looping (Stmt-F.If bs zs) = if_keeps (inner looping) (inners looping) blocks bs zs
    stmt_by_keeps inner inners blocks looping (Stmt-F.For t x body) = for_keeps (inner true) (inners true) blocks t x body
    stmt_by_keeps inner inners blocks looping (Stmt-F.Def n ps body) = λ u fit. tt

    pub stmt_keeps : (depth : ℕ) (blocks : List BlockParts) (looping : Bool) (x : Stmt) → Gives F {A = Stmt} (λ y. stmt_of N.later y ≡ stmt_of N.earlier x) (stmt_to file depth blocks looping x)
    unfolding stmt_to
    stmt_keeps zero blocks looping x = λ _ _. tt
    stmt_keeps (suc depth) blocks looping x =
        gives_as F {A = Stmt} (λ z. stmt_of N.later z ≡ N.earlier.stmt_step (stmt_inside N.earlier (out-Stmt x))) (λ z. stmt_of N.later z ≡ stmt_of N.earlier x) (λ z h. h ∙ sym (opened_stmt N.earlier x))
        (stmt_by file (stmt_to file depth blocks) blocks looping (out-Stmt x)) (stmt_by_keeps (stmt_to file depth blocks) (stmt_keeps depth blocks) blocks looping (out-Stmt x))
