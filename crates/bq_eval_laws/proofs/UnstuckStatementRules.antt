-- Statements do not get stuck, where they are sound.
use Rattle.std.proofs.Common.{ℕ, zero, suc, List, [], ◌∷◌, Option, Some, None}
use Rattle.std.specs.List.{AllByRecursion}
use Rattle.bq_parse_grammar.specs.declared.tree.Branch.{Branch, out-Branch}
use Rattle.bq_parse_grammar.specs.declared.tree.Expr.{Expr}
use Rattle.bq_parse_grammar.specs.declared.tree.SmallKind.{SmallKind}
use Rattle.bq_parse_grammar.specs.declared.tree.SmallKind.TheVariants as small
use Rattle.bq_parse_grammar.specs.declared.tree.SmallStmt.{SmallStmt}
use Rattle.bq_parse_grammar.specs.declared.tree.Stmt.{Stmt, out-Stmt}
use Rattle.bq_parse_grammar.specs.declared.tree.Stmt.TheOpen.{Stmt-F}
use Rattle.bq_parse_grammar.specs.declared.tree.TargetExpr.{TargetExpr}
use Rattle.bq_value.specs.Datum.{Datum, none}
use Rattle.bq_eval_spec.specs.Frame.{Frame}
use Rattle.bq_eval_spec.specs.Primitives.{Primitives}
use Rattle.bq_eval_spec.specs.Slots.{by_slots}
use Rattle.bq_eval_spec.specs.Statements.{Flow, next, leave, again, answer, Exec, go_on, turn_on, steps_of, expr_stmt, assign_stmt, return_stmt, small_by, small_stmt, line, block, branches, turn, turns, for_loop, stmt_by, stmt, run_to}
use Rattle.bq_eval_spec.specs.Trees.{Eval, StmtLayer}
use Rattle.bq_eval_laws.specs.Layers.{OptionalParts}
use Rattle.bq_eval_laws.specs.Stuck.{Unstuck, NeverStuck}
use Rattle.bq_eval_laws.specs.Sound.{AreNames, ExprIsSound, PlaceIsSound, SmallIsSound, KindIsSound, BranchIsSound, StmtLayerIsSound, StmtIsSound}
use Rattle.bq_eval_laws.proofs.Unstuck.{value_of, both, choice_of}
use Rattle.bq_eval_laws.proofs.UnstuckTargetRules.{variables_rule, assign_rule, augment_rule}

module _ {S : Type 0} (m : Primitives S) (L : NeverStuck m) where
  -- of statements in one frame
  abbrev pub Ends : Exec S Frame → Type 0
  Ends run = (env : Frame) → Unstuck (Flow × Frame) (run env)

  pub go_on_rule : (run : Exec S Frame) → Ends run → (r : Flow × Frame) → Unstuck (Flow × Frame) (go_on run r)
  go_on_rule run runs (next, env) = runs env
  go_on_rule run runs (leave, env) = value_of (Flow × Frame) (leave, env)
  go_on_rule run runs (again, env) = value_of (Flow × Frame) (again, env)
  go_on_rule run runs (answer v, env) = value_of (Flow × Frame) (answer v, env)

  turn_on_rule : (run : Exec S Frame) → Ends run → (r : Flow × Frame) → Unstuck (Flow × Frame) (turn_on run r)
  turn_on_rule run runs (next, env) = runs env
  turn_on_rule run runs (leave, env) = value_of (Flow × Frame) (next, env)
  turn_on_rule run runs (again, env) = runs env
  turn_on_rule run runs (answer v, env) = value_of (Flow × Frame) (answer v, env)

  module _ (eval : Eval S Frame) (evals : (x : Expr) → ExprIsSound x → (env : Frame) → Unstuck Datum (eval x env)) where
    -- ---- small statements

    expr_stmt_rule : (x : Expr) → ExprIsSound x → Ends (expr_stmt m by_slots eval x)
    unfolding expr_stmt
    expr_stmt_rule x h env = both _ _ _ _ (evals x h env) (λ _. value_of (Flow × Frame) (next, env))

    assign_stmt_rule : (t : TargetExpr) (x : Expr) → PlaceIsSound t → ExprIsSound x → Ends (assign_stmt m by_slots eval t x)
    unfolding assign_stmt
    assign_stmt_rule t x h k env =
        both _ _ _ _ (evals x k env) (λ v. both _ _ _ _ (assign_rule m L ExprIsSound eval evals t h v env) (λ new. value_of (Flow × Frame) (next, new)))

    return_rule : (x : Option Expr) → OptionalParts ExprIsSound x → Ends (return_stmt m by_slots eval x)
    unfolding return_stmt
    return_rule None h env = value_of (Flow × Frame) (answer none, env)
    return_rule (Some x) h env = both _ _ _ _ (evals x h env) (λ v. value_of (Flow × Frame) (answer v, env))

    small_by_rule : (x : SmallKind) → KindIsSound x → Ends (small_by m by_slots eval x)
    small_by_rule (small.Expr x) h env = expr_stmt_rule x h env
    small_by_rule (small.Assign t x) h env = assign_stmt_rule t x h.0 h.1 env
    small_by_rule (small.Augment t o x) h env = both _ _ _ _ (augment_rule m L ExprIsSound eval evals t h.0 h.1 o x h.2 env) (λ new. value_of (Flow × Frame) (next, new))
    small_by_rule (small.Return x) h env = return_rule x h env
    small_by_rule small.Break h env = value_of (Flow × Frame) (leave, env)
    small_by_rule small.Continue h env = value_of (Flow × Frame) (again, env)
    small_by_rule small.Pass h env = value_of (Flow × Frame) (next, env)
    small_by_rule (small.Load l) h env = value_of (Flow × Frame) (next, env)

    small_rule : (x : SmallStmt) → SmallIsSound x → Ends (small_stmt m by_slots eval x)
    unfolding small_stmt
    small_rule x h env = both _ _ _ _ (L.of_step (steps_of x.kind)) (λ _. small_by_rule x.kind h env)

    pub line_rule : (xs : List SmallStmt) → AllByRecursion SmallIsSound xs → Ends (line m by_slots eval xs)
    unfolding line
    line_rule [] all env = value_of (Flow × Frame) (next, env)
    line_rule (x ∷ xs) all env = both _ _ _ _ (small_rule x all.0 env) (λ r. go_on_rule (line m by_slots eval xs) (line_rule xs all.1) r)

    -- ---- statements with blocks

    module _ (P : Stmt → Type 0) (run : Stmt → Exec S Frame) (runs : (x : Stmt) → P x → Ends (run x)) where
      pub block_rule : (xs : List Stmt) → AllByRecursion P xs → Ends (block m by_slots eval run xs)
      unfolding block
      block_rule [] all env = value_of (Flow × Frame) (next, env)
      block_rule (x ∷ xs) all env = both _ _ _ _ (runs x all.0 env) (λ r. go_on_rule (block m by_slots eval run xs) (block_rule xs all.1) r)

      branches_rule : (bs : List Branch) (otherwise : List Stmt) → AllByRecursion (BranchIsSound P) bs → AllByRecursion P otherwise → Ends (branches m by_slots eval run bs otherwise)
      unfolding branches
      branches_rule [] otherwise all rest env = block_rule otherwise rest env
      branches_rule (b ∷ bs) otherwise all rest env =
          both _ _ _ _ (evals (out-Branch b).condition all.0.0 env)
          (λ t. choice_of m (Flow × Frame) t _ _ (block_rule (out-Branch b).block all.0.1 env) (branches_rule bs otherwise all.1 rest env))

      turn_rule : (t : TargetExpr) (body : List Stmt) → AreNames t → AllByRecursion P body → (v : Datum) → Ends (turn m by_slots eval run t body v)
      unfolding turn
      turn_rule t body names all v env = both _ _ _ _ (L.of_step 1) (λ _. both _ _ _ _ (variables_rule m L t names v env) (λ new. block_rule body all new))

      turns_rule : (t : TargetExpr) (body : List Stmt) → AreNames t → AllByRecursion P body → (vs : List Datum) → Ends (turns m by_slots eval run t body vs)
      unfolding turns
      turns_rule t body names all [] env = value_of (Flow × Frame) (next, env)
      turns_rule t body names all (v ∷ vs) env =
          both _ _ _ _ (turn_rule t body names all v env) (λ r. turn_on_rule (turns m by_slots eval run t body vs) (turns_rule t body names all vs) r)

      for_rule : (t : TargetExpr) (x : Expr) (body : List Stmt) → AreNames t → ExprIsSound x → AllByRecursion P body → Ends (for_loop m by_slots eval run t x body)
      unfolding for_loop
      for_rule t x body names h all env =
          both _ _ _ _ (evals x h env)
          (λ v. both _ _ _ _ (L.of_begin_walk v)
          (λ vs. both _ _ _ _ (turns_rule t body names all vs env)
          (λ r s. tt)))

      stmt_by_rule : (o : StmtLayer) → StmtLayerIsSound P o → Ends (stmt_by m by_slots eval run o)
      stmt_by_rule (Stmt-F.Simple xs) h env = line_rule xs h env
      stmt_by_rule (Stmt-F.If bs otherwise) h env = both _ _ _ _ (L.of_step 1) (λ _. branches_rule bs otherwise h.0 h.1 env)
      stmt_by_rule (Stmt-F.For t x body) h env = both _ _ _ _ (L.of_step 1) (λ _. for_rule t x body h.0 h.1 h.2 env)
      stmt_by_rule (Stmt-F.Def n ps body) h env = absurd h

      stmt_rule : (x : Stmt) → StmtLayerIsSound P (out-Stmt x) → Ends (stmt m by_slots eval run x)
      unfolding stmt
      stmt_rule x h env = stmt_by_rule (out-Stmt x) h env

    pub run_rule : (n : ℕ) (x : Stmt) → StmtIsSound n x → Ends (run_to n m by_slots eval x)
    unfolding run_to StmtIsSound
    run_rule zero x sound env = absurd sound
    run_rule (suc n) x sound env = stmt_rule (StmtIsSound n) (run_to n m by_slots eval) (run_rule n) x sound env
