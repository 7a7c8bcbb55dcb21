-- A relation that respects the rules holds of statements.
use Rattle.std.proofs.Common.{ℕ, zero, suc, List, [], ◌∷◌, Option, Some, None, ◌≤◌, not-suc-le-zero, le_of_suc-le-suc}
use Rattle.std.specs.List.{AllByRecursion}
use Rattle.bq_parse_grammar.specs.declared.tree.Expr.{Expr}
use Rattle.bq_parse_grammar.specs.declared.tree.Branch.{Branch, out-Branch}
use Rattle.bq_parse_grammar.specs.declared.tree.SmallKind.{SmallKind}
use Rattle.bq_parse_grammar.specs.declared.tree.Stmt.{Stmt, out-Stmt}
use Rattle.bq_parse_grammar.specs.declared.tree.Stmt.TheOpen.{Stmt-F}
use Rattle.bq_parse_grammar.specs.declared.tree.TargetExpr.{TargetExpr}
use Rattle.bq_parse_grammar.specs.declared.tree.SmallStmt.{SmallStmt}
use Rattle.bq_parse_grammar.specs.declared.tree.SmallKind.TheVariants as small
use Rattle.bq_value.specs.Datum.{Datum, none}
use Rattle.bq_eval_spec.specs.Primitives.{Primitives, stuck_fault}
use Rattle.bq_eval_spec.specs.Statements.{Flow, next, leave, again, answer, Exec, go_on, turn_on, steps_of, expr_stmt, assign_stmt, return_stmt, small_by, small_stmt, line, block, branches, turn, turns, for_loop, stmt_by, stmt, run_to}
use Rattle.bq_eval_spec.specs.Trees.{Eval, StmtLayer}
use Rattle.bq_eval_spec.specs.Environment.{Scoping}
use Rattle.bq_eval_laws.specs.Layers.{BranchParts, StmtParts, StmtIsWithin}
use Rattle.bq_eval_laws.proofs.Anything.{Holds}
use Rattle.bq_eval_laws.proofs.Respects.{Relation, Respects}
use Rattle.bq_eval_laws.proofs.TargetRules.{variables_rule, assign_rule, augment_rule}
use Rattle.bq_eval_laws.proofs.Anything as anything

module _ {S Round V : Type 0} (m : Primitives S) (scoping : Scoping Round V) (K : Relation S) (R : Respects m K) where
  -- of statements in one frame
  abbrev pub Ends : Exec S V → Exec S V → Type 0
  Ends run other = (env : V) → K (Flow × V) (run env) (other env)

  pub go_on_rule : (run other : Exec S V) → Ends run other → (r : Flow × V) → K (Flow × V) (go_on run r) (go_on other r)
  go_on_rule run other runs (next, env) = runs env
  go_on_rule run other runs (leave, env) = R.of_value (Flow × V) (leave, env)
  go_on_rule run other runs (again, env) = R.of_value (Flow × V) (again, env)
  go_on_rule run other runs (answer v, env) = R.of_value (Flow × V) (answer v, env)

  turn_on_rule : (run other : Exec S V) → Ends run other → (r : Flow × V) → K (Flow × V) (turn_on run r) (turn_on other r)
  turn_on_rule run other runs (next, env) = runs env
  turn_on_rule run other runs (leave, env) = R.of_value (Flow × V) (next, env)
  turn_on_rule run other runs (again, env) = runs env
  turn_on_rule run other runs (answer v, env) = R.of_value (Flow × V) (answer v, env)

  module _ (eval : Eval S V) (evals : (x : Expr) (env : V) → K Datum (eval x env) (eval x env)) where
    -- ---- small statements

    expr_stmt_rule : (x : Expr) → Ends (expr_stmt m scoping eval x) (expr_stmt m scoping eval x)
    unfolding expr_stmt
    expr_stmt_rule x env = R.of_both _ _ _ _ _ _ (evals x env) (λ _. R.of_value (Flow × V) (next, env))

    assign_stmt_rule : (t : TargetExpr) (x : Expr) → Ends (assign_stmt m scoping eval t x) (assign_stmt m scoping eval t x)
    unfolding assign_stmt
    assign_stmt_rule t x env =
        R.of_both _ _ _ _ _ _ (evals x env) (λ v. R.of_both _ _ _ _ _ _ (assign_rule m scoping K R eval evals t v env) (λ new. R.of_value (Flow × V) (next, new)))

    return_rule : (x : Option Expr) → Ends (return_stmt m scoping eval x) (return_stmt m scoping eval x)
    unfolding return_stmt
    return_rule None env = R.of_value (Flow × V) (answer none, env)
    return_rule (Some x) env = R.of_both _ _ _ _ _ _ (evals x env) (λ v. R.of_value (Flow × V) (answer v, env))

    small_by_rule : (x : SmallKind) → Ends (small_by m scoping eval x) (small_by m scoping eval x)
    small_by_rule (small.Expr x) env = expr_stmt_rule x env
    small_by_rule (small.Assign t x) env = assign_stmt_rule t x env
    small_by_rule (small.Augment t o x) env = R.of_both _ _ _ _ _ _ (augment_rule m scoping K R eval evals t o x env) (λ new. R.of_value (Flow × V) (next, new))
    small_by_rule (small.Return x) env = return_rule x env
    small_by_rule small.Break env = R.of_value (Flow × V) (leave, env)
    small_by_rule small.Continue env = R.of_value (Flow × V) (again, env)
    small_by_rule small.Pass env = R.of_value (Flow × V) (next, env)
    small_by_rule (small.Load l) env = R.of_value (Flow × V) (next, env)

    small_rule : (x : SmallStmt) → Ends (small_stmt m scoping eval x) (small_stmt m scoping eval x)
    unfolding small_stmt
    small_rule x env = R.of_both _ _ _ _ _ _ (R.of_step (steps_of x.kind)) (λ _. small_by_rule x.kind env)

    pub line_rule : (xs : List SmallStmt) → Ends (line m scoping eval xs) (line m scoping eval xs)
    unfolding line
    line_rule [] env = R.of_value (Flow × V) (next, env)
    line_rule (x ∷ xs) env = R.of_both _ _ _ _ _ _ (small_rule x env) (λ r. go_on_rule (line m scoping eval xs) (line m scoping eval xs) (line_rule xs) r)

    -- ---- statements with blocks

    module _ (P : Stmt → Type 0) (run other : Stmt → Exec S V) (runs : (x : Stmt) → P x → Ends (run x) (other x)) where
      pub block_rule : (xs : List Stmt) → AllByRecursion P xs → Ends (block m scoping eval run xs) (block m scoping eval other xs)
      unfolding block
      block_rule [] all env = R.of_value (Flow × V) (next, env)
      block_rule (x ∷ xs) all env = R.of_both _ _ _ _ _ _ (runs x all.0 env) (λ r. go_on_rule (block m scoping eval run xs) (block m scoping eval other xs) (block_rule xs all.1) r)

      branches_rule : (bs : List Branch) (otherwise : List Stmt) → AllByRecursion (BranchParts P) bs → AllByRecursion P otherwise
          → Ends (branches m scoping eval run bs otherwise) (branches m scoping eval other bs otherwise)
      unfolding branches
      branches_rule [] otherwise all rest env = block_rule otherwise rest env
      branches_rule (b ∷ bs) otherwise all rest env =
          R.of_both _ _ _ _ _ _ (evals (out-Branch b).condition env)
          (λ t. R.of_choice (Flow × V) t _ _ _ _ (block_rule (out-Branch b).block all.0 env) (branches_rule bs otherwise all.1 rest env))

      turn_rule : (t : TargetExpr) (body : List Stmt) → AllByRecursion P body → (v : Datum) → Ends (turn m scoping eval run t body v) (turn m scoping eval other t body v)
      unfolding turn
      turn_rule t body all v env = R.of_both _ _ _ _ _ _ (R.of_step 1) (λ _. R.of_both _ _ _ _ _ _ (variables_rule m scoping K R t v env) (λ new. block_rule body all new))

      turns_rule : (t : TargetExpr) (body : List Stmt) → AllByRecursion P body → (vs : List Datum) → Ends (turns m scoping eval run t body vs) (turns m scoping eval other t body vs)
      unfolding turns
      turns_rule t body all [] env = R.of_value (Flow × V) (next, env)
      turns_rule t body all (v ∷ vs) env =
          R.of_both _ _ _ _ _ _ (turn_rule t body all v env) (λ r. turn_on_rule (turns m scoping eval run t body vs) (turns m scoping eval other t body vs) (turns_rule t body all vs) r)

      for_rule : (t : TargetExpr) (x : Expr) (body : List Stmt) → AllByRecursion P body → Ends (for_loop m scoping eval run t x body) (for_loop m scoping eval other t x body)
      unfolding for_loop
      for_rule t x body all env =
          R.of_both _ _ _ _ _ _ (evals x env)
          (λ v. R.of_both _ _ _ _ _ _ (R.of_begin_walk v)
          (λ vs. R.of_both _ _ _ _ _ _ (turns_rule t body all vs env)
          (λ r. R.of_both _ _ _ _ _ _ (R.of_end_walk v) (λ _. R.of_value (Flow × V) r))))

      stmt_by_rule : (o : StmtLayer) → StmtParts P o → Ends (stmt_by m scoping eval run o) (stmt_by m scoping eval other o)
      stmt_by_rule (Stmt-F.Simple xs) h env = line_rule xs env
      stmt_by_rule (Stmt-F.If bs otherwise) h env = R.of_both _ _ _ _ _ _ (R.of_step 1) (λ _. branches_rule bs otherwise h.0 h.1 env)
      stmt_by_rule (Stmt-F.For t x body) h env = R.of_both _ _ _ _ _ _ (R.of_step 1) (λ _. for_rule t x body h env)
      stmt_by_rule (Stmt-F.Def n ps body) h env = R.of_stop (Flow × V) stuck_fault

      stmt_rule : (x : Stmt) → StmtParts P (out-Stmt x) → Ends (stmt m scoping eval run x) (stmt m scoping eval other x)
      unfolding stmt
      stmt_rule x h env = stmt_by_rule (out-Stmt x) h env

    -- at a depth that suffices, and at a greater one
    pub run_depths : (n k : ℕ) → n ≤ k → (x : Stmt) → StmtIsWithin n x → Ends (run_to n m scoping eval x) (run_to k m scoping eval x)
    unfolding run_to StmtIsWithin
    run_depths zero k few x fits env = absurd fits
    run_depths (suc n) zero few x fits env = absurd (not-suc-le-zero few)
    run_depths (suc n) (suc k) few x fits env = stmt_rule (StmtIsWithin n) (run_to n m scoping eval) (run_to k m scoping eval) (run_depths n k (le_of_suc-le-suc few)) x fits env

    pub run_rule : (n : ℕ) (x : Stmt) → Ends (run_to n m scoping eval x) (run_to n m scoping eval x)
    unfolding run_to
    run_rule zero x env = R.of_stop (Flow × V) stuck_fault
    run_rule (suc n) x env = stmt_rule Holds (run_to n m scoping eval) (run_to n m scoping eval) (λ y _. run_rule n y) x (anything.stmt (out-Stmt x)) env
