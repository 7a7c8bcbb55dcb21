-- The laws of steps: each node of a program takes its steps before anything in it is evaluated. Where too few are left, F53, nothing in it
-- is. What `step` refuses, whatever number it is asked for, says how many they are.
use Rattle.std.specs.Prelude.{◌≡◌, ℕ, List, [], ◌∷◌, length, Option, Some, None}
use Rattle.bq_base.specs.declared.fault.EvalFault.TheVariants as f
use Rattle.bq_parse_grammar.specs.declared.tree.Argument.TheOpen.{Expr-F}
use Rattle.bq_parse_grammar.specs.declared.tree.Expr.{Expr, out-Expr}
use Rattle.bq_parse_grammar.specs.declared.tree.Identifier.{Identifier}
use Rattle.bq_parse_grammar.specs.declared.tree.SmallKind.{SmallKind}
use Rattle.bq_parse_grammar.specs.declared.tree.SmallKind.TheVariants as small
use Rattle.bq_parse_grammar.specs.declared.tree.SmallStmt.{SmallStmt}
use Rattle.bq_parse_grammar.specs.declared.tree.Stmt.{Stmt, out-Stmt}
use Rattle.bq_parse_grammar.specs.declared.tree.Stmt.TheOpen.{Stmt-F}
use Rattle.bq_parse_grammar.specs.declared.tree.TargetExpr.{TargetExpr}
use Rattle.bq_parse_grammar.specs.Targets.{ExprLayer}
use Rattle.bq_resolve_scope.specs.declared.file.Def.{Def}
use Rattle.bq_value.specs.Contents.{Contents}
use Rattle.bq_value.specs.Datum.{Datum, int, string}
use Rattle.bq_builtin_machine.specs.Action.{Run, done, stopped}
use Rattle.bq_builtin_machine.specs.State.{Stop, stop_at}
use Rattle.bq_eval_spec.specs.Primitives.{Primitives, stuck}
use Rattle.bq_eval_spec.specs.Comprehensions as comprehensions
use Rattle.bq_eval_spec.specs.Comprehensions.{Turn}
use Rattle.bq_eval_spec.specs.Environment.{NameValue, variable, predeclared, Scoping}
use Rattle.bq_eval_spec.specs.Expressions.{expr}
use Rattle.bq_eval_spec.specs.Module.{Own, def_stmt}
use Rattle.bq_eval_spec.specs.Statements.{Exec, small_stmt, turn, stmt}
use Rattle.bq_eval_spec.specs.Trees.{Eval, Calls, StmtLayer}
use Rattle.bq_eval_laws.specs.Depth.{MembersAreSuffixes}

-- The steps that an expression takes before anything in it is evaluated: one, but one for each suffix of an operand and for each operator
-- of a chain. A conditional takes one for each condition that it evaluates, before that.
abbrev pub expr_steps : ExprLayer → Option ℕ
expr_steps (Expr-F.Expr::Name n) = Some 1
expr_steps (Expr-F.Int n) = Some 1
expr_steps (Expr-F.String t) = Some 1
expr_steps (Expr-F.Expr::List xs) = Some 1
expr_steps (Expr-F.Expr::Tuple xs) = Some 1
expr_steps (Expr-F.Dict ps) = Some 1
expr_steps (Expr-F.ListComprehension x cs own) = Some 1
expr_steps (Expr-F.DictComprehension p cs own) = Some 1
expr_steps (Expr-F.Primary x ss) = Some (length ss)
expr_steps (Expr-F.Unary os x) = Some (length os)
expr_steps (Expr-F.Binary x os) = Some (length os)
expr_steps (Expr-F.Compare x o y) = Some 1
expr_steps (Expr-F.Conditional [] x) = None
expr_steps (Expr-F.Conditional (c ∷ cs) x) = Some 1
expr_steps Expr-F.Lambda = None

-- the steps of a small statement: one, but a load takes none where it is
abbrev pub small_steps : SmallKind → ℕ
small_steps (small.Load l) = 0
small_steps _ = 1

-- the steps of a statement with blocks; on a line each small statement takes its own
abbrev pub stmt_steps : StmtLayer → Option ℕ
stmt_steps (Stmt-F.If bs otherwise) = Some 1
stmt_steps (Stmt-F.For t x body) = Some 1
stmt_steps _ = None

-- the value that a literal stands for
abbrev pub literal_value : ExprLayer → Option Datum
literal_value (Expr-F.Int n) = Some (int n)
literal_value (Expr-F.String t) = Some (string t)
literal_value _ = None

module _ {S : Type 0} (m : Primitives S) where
  -- what the use of a name gives: the value of a variable, F49 where it has none yet, or what all files have by the name
  abbrev pub used : Option NameValue → S → Run S Datum
  used (Some (variable (Some v))) s = done v s
  used (Some (variable None)) s = stopped (stop_at f.Unbound (m.machine s))
  used (Some (predeclared p)) s = done (m.predeclared p) s
  used None s = stuck m s

module _ {S R V : Type 0} (m : Primitives S) (scoping : Scoping R V) where
  -- an expression
  abbrev pub ExpressionsStepFirst : Type 0
  ExpressionsStepFirst =
      (eval : Eval S V) (call : Calls S) (round : R) (env : V) (x : Expr) (n : ℕ) (s : S) (why : Stop) → MembersAreSuffixes scoping → expr_steps (out-Expr x) ≡ Some n → m.step n s ≡ stopped why
      → expr m scoping eval call round x env s ≡ stopped why

  abbrev pub SmallStatementsStepFirst : Type 0
  SmallStatementsStepFirst = (eval : Eval S V) (x : SmallStmt) (env : V) (s : S) (why : Stop) → m.step (small_steps x.kind) s ≡ stopped why → small_stmt m scoping eval x env s ≡ stopped why

  abbrev pub StatementsStepFirst : Type 0
  StatementsStepFirst =
      (eval : Eval S V) (run : Stmt → Exec S V) (x : Stmt) (env : V) (n : ℕ) (s : S) (why : Stop) → stmt_steps (out-Stmt x) ≡ Some n → m.step n s ≡ stopped why
      → stmt m scoping eval run x env s ≡ stopped why

  -- each turn of a loop, before its variables are bound, of a statement and of a clause
  abbrev pub TurnsStepFirst : Type 0
  TurnsStepFirst =
      (eval : Eval S V) (run : Stmt → Exec S V) (inner : Turn S V) (t : TargetExpr) (body : List Stmt) (v : Datum) (c : Contents) (env : V) (s : S) (why : Stop) → m.step 1 s ≡ stopped why
      → (turn m scoping eval run t body v env s ≡ stopped why) × (comprehensions.turn m scoping t inner v env c s ≡ stopped why)

  -- a `def`, before its defaults
  abbrev pub DefsStepFirst : Type 0
  DefsStepFirst = (own : Own R V) (eval : Eval S V) (d : Def) (globals : V) (s : S) (why : Stop) → m.step 1 s ≡ stopped why → def_stmt m scoping own eval d globals s ≡ stopped why

  -- after its step a name is read, and nothing else is done
  abbrev pub NamesAreRead : Type 0
  NamesAreRead =
      (eval : Eval S V) (call : Calls S) (round : R) (env : V) (x : Expr) (n : Identifier) (r s : S) → out-Expr x ≡ Expr-F.Expr::Name n → m.step 1 r ≡ done tt s
      → expr m scoping eval call round x env r ≡ used m (scoping.value round env n) s

  -- after its step a literal is its value
  abbrev pub LiteralsAreValues : Type 0
  LiteralsAreValues =
      (eval : Eval S V) (call : Calls S) (round : R) (env : V) (x : Expr) (v : Datum) (r s : S) → literal_value (out-Expr x) ≡ Some v → m.step 1 r ≡ done tt s
      → expr m scoping eval call round x env r ≡ done v s
