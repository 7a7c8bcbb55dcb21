-- A statement runs by its form.
use Rattle.std.proofs.Common.{◌≡◌, ◌∙◌, List, ap}
use Rattle.bq_parse_grammar.specs.declared.tree.Branch.{Branch}
use Rattle.bq_parse_grammar.specs.declared.tree.Expr.{Expr}
use Rattle.bq_parse_grammar.specs.declared.tree.Identifier.{Identifier}
use Rattle.bq_parse_grammar.specs.declared.tree.Parameter.{Parameter}
use Rattle.bq_parse_grammar.specs.declared.tree.SmallStmt.{SmallStmt}
use Rattle.bq_parse_grammar.specs.declared.tree.Stmt.{Stmt, out-Stmt}
use Rattle.bq_parse_grammar.specs.declared.tree.Stmt.TheOpen.{Stmt-F}
use Rattle.bq_parse_grammar.specs.declared.tree.Stmt.TheVariants as forms
use Rattle.bq_parse_grammar.specs.declared.tree.TargetExpr.{TargetExpr}
use Rattle.bq_builtin_machine.specs.Action.{following}
use Rattle.bq_eval_spec.specs.Frame.{Frame}
use Rattle.bq_eval_spec.specs.Primitives.{Primitives, stuck}
use Rattle.bq_eval_spec.specs.Statements.{Exec, branches, for_loop, line, stmt, stmt_by}
use Rattle.bq_eval_spec.specs.Slots.{by_slots}
use Rattle.bq_eval_spec.specs.Trees.{Eval, StmtLayer}

module _ {S : Type 0} (m : Primitives S) (eval : Eval S Frame) (run : Stmt → Exec S Frame) (x : Stmt) (env : Frame) (s : S) where
  run_in : (l : StmtLayer) → out-Stmt x ≡ l → stmt m by_slots eval run x env s ≡ stmt_by m by_slots eval run l env s
  unfolding stmt
  run_in l is = ap (λ k. stmt_by m by_slots eval run k env s) is

  pub line_runs : (xs : List SmallStmt) → x ≡ forms.Simple xs → stmt m by_slots eval run x env s ≡ line m by_slots eval xs env s
  line_runs xs is = run_in (Stmt-F.Simple xs) (ap out-Stmt is ∙ forms.outs-Simple xs)

  pub branches_run : (bs : List Branch) (xs : List Stmt) → x ≡ forms.If bs xs → stmt m by_slots eval run x env s ≡ following (m.step 1 s) (λ _. branches m by_slots eval run bs xs env)
  branches_run bs xs is = run_in (Stmt-F.If bs xs) (ap out-Stmt is ∙ forms.outs-If bs xs)

  pub loop_runs : (t : TargetExpr) (y : Expr) (xs : List Stmt) → x ≡ forms.For t y xs → stmt m by_slots eval run x env s ≡ following (m.step 1 s) (λ _. for_loop m by_slots eval run t y xs env)
  loop_runs t y xs is = run_in (Stmt-F.For t y xs) (ap out-Stmt is ∙ forms.outs-For t y xs)

  pub no_def_runs : (n : Identifier) (ps : List Parameter) (xs : List Stmt) → x ≡ forms.Def n ps xs → stmt m by_slots eval run x env s ≡ stuck m s
  no_def_runs n ps xs is = run_in (Stmt-F.Def n ps xs) (ap out-Stmt is ∙ forms.outs-Def n ps xs)
