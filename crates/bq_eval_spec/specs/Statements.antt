-- What a statement does (Starlark specification, "Statements"). In a function the environment holds its names, outside functions those
-- of the file.
use Rattle.std.specs.Prelude.{ℕ, zero, suc, List, [], ◌∷◌, Option, Some, None, if◌then◌else◌}
use Rattle.bq_parse_grammar.specs.declared.tree.Branch.{Branch, out-Branch}
use Rattle.bq_parse_grammar.specs.declared.tree.Expr.{Expr}
use Rattle.bq_parse_grammar.specs.declared.tree.SmallKind.{SmallKind}
use Rattle.bq_parse_grammar.specs.declared.tree.SmallKind.TheVariants as small
use Rattle.bq_parse_grammar.specs.declared.tree.SmallStmt.{SmallStmt}
use Rattle.bq_parse_grammar.specs.declared.tree.Stmt.{Stmt, out-Stmt}
use Rattle.bq_parse_grammar.specs.declared.tree.Stmt.TheOpen.{Stmt-F}
use Rattle.bq_parse_grammar.specs.declared.tree.TargetExpr.{TargetExpr}
use Rattle.bq_resolve_scope.specs.Names.{max_layers}
use Rattle.bq_value.specs.Datum.{Datum, none}
use Rattle.bq_builtin_machine.specs.Action.{Action, ◌>>=◌, pure}
use Rattle.bq_eval_spec.specs.Primitives.{Primitives, stuck, change}
use Rattle.bq_eval_spec.specs.Environment.{Scoping}
use Rattle.bq_eval_spec.specs.Targets.{bind_variables, assign, augment}
use Rattle.bq_eval_spec.specs.Trees.{Eval, StmtLayer}

-- what comes after a statement: the next one, or the end of a turn, a loop or the function
pub data Flow : Type 0 where
  next : Flow
  leave : Flow
  again : Flow
  answer : Datum → Flow

-- what a statement does in an environment: where the run goes on, and the environment then
abbrev pub Exec : Type 0 → Type 0 → Type 0
Exec S V = V → Action S (Flow × V)

-- goes on where nothing ends
abbrev pub go_on : {S V : Type 0} → Exec S V → Flow × V → Action S (Flow × V)
go_on run (next, env) = run env
go_on run (flow, env) = pure (flow, env)

-- goes on to the next turn, but for `break` and `return`
abbrev pub turn_on : {S V : Type 0} → Exec S V → Flow × V → Action S (Flow × V)
turn_on run (next, env) = run env
turn_on run (again, env) = run env
turn_on run (leave, env) = pure (next, env)
turn_on run (answer v, env) = pure (answer v, env)

-- a load does nothing where it is, and takes no step
unfoldable pub steps_of : SmallKind → ℕ
steps_of (small.Load l) = 0
steps_of _ = 1

module _ {S R V : Type 0} (m : Primitives S) (scoping : Scoping R V) (eval : Eval S V) where
  -- ---- small statements

  -- an expression as a statement
  unfoldable pub expr_stmt : Expr → Exec S V
  expr_stmt x env = eval x env >>= λ _. pure (next, env)

  -- `t = x`: the right side first
  unfoldable pub assign_stmt : TargetExpr → Expr → Exec S V
  assign_stmt t x env = eval x env >>= λ v. assign m scoping eval t v env >>= λ new. pure (next, new)

  -- `return`: without a value the answer is `None`
  unfoldable pub return_stmt : Option Expr → Exec S V
  return_stmt None env = pure (answer none, env)
  return_stmt (Some x) env = eval x env >>= λ v. pure (answer v, env)

  -- a small statement, by its form
  abbrev pub small_by : SmallKind → Exec S V
  small_by (small.Expr x) env = expr_stmt x env
  small_by (small.Assign t x) env = assign_stmt t x env
  small_by (small.Augment t op x) env = augment m scoping eval t op x env >>= λ new. pure (next, new)
  small_by (small.Return x) env = return_stmt x env
  small_by small.Break env = pure (leave, env)
  small_by small.Continue env = pure (again, env)
  small_by small.Pass env = pure (next, env)
  -- the names of a load are bound before the file runs
  small_by (small.Load l) env = pure (next, env)

  -- a small statement: its step, and what it does
  unfoldable pub small_stmt : SmallStmt → Exec S V
  small_stmt x env = m.step (steps_of x.kind) >>= λ _. small_by x.kind env

  -- the statements of one line
  unfoldable pub line : List SmallStmt → Exec S V
  line [] env = pure (next, env)
  line (x ∷ xs) env = small_stmt x env >>= λ r. go_on (line xs) r

  -- ---- statements: `run` does those inside
  module _ (run : Stmt → Exec S V) where
    -- the statements of a block, in order
    unfoldable pub block : List Stmt → Exec S V
    block [] env = pure (next, env)
    block (x ∷ xs) env = run x env >>= λ r. go_on (block xs) r

    -- the block of the first branch whose condition holds
    unfoldable pub branches : List Branch → List Stmt → Exec S V
    branches [] otherwise env = block otherwise env
    branches (b ∷ bs) otherwise env =
        eval (out-Branch b).condition env >>= λ t. λ s. (if m.truth t s then block (out-Branch b).block env else branches bs otherwise env) s

    -- one turn of a loop: a step, its variables, its body
    unfoldable pub turn : TargetExpr → List Stmt → Datum → Exec S V
    turn t body v env = m.step 1 >>= λ _. bind_variables m scoping t v env >>= λ new. block body new

    -- the turns over these elements
    unfoldable pub turns : TargetExpr → List Stmt → List Datum → Exec S V
    turns t body [] env = pure (next, env)
    turns t body (v ∷ vs) env = turn t body v env >>= λ r. turn_on (turns t body vs) r

    -- `for t in x`: over the elements that there are when it begins
    unfoldable pub for_loop : TargetExpr → Expr → List Stmt → Exec S V
    for_loop t x body env = eval x env >>= λ v. m.begin_walk v >>= λ vs. turns t body vs env >>= λ r. change m (m.end_walk v) >>= λ _. pure r

    -- a statement, by its form
    abbrev pub stmt_by : StmtLayer → Exec S V
    stmt_by (Stmt-F.Simple xs) env = line xs env
    stmt_by (Stmt-F.If bs otherwise) env = m.step 1 >>= λ _. branches bs otherwise env
    stmt_by (Stmt-F.For t x body) env = m.step 1 >>= λ _. for_loop t x body env
    -- the grammar leaves out a `def` in a function
    stmt_by (Stmt-F.Def n ps body) env = stuck m

    -- a statement
    unfoldable pub stmt : Stmt → Exec S V
    stmt x env = stmt_by (out-Stmt x) env

-- of statements that are at most this many layers deep; no tree that is parsed has a deeper one
unfoldable pub run_to : {S R V : Type 0} → ℕ → Primitives S → Scoping R V → Eval S V → Stmt → Exec S V
run_to zero m scoping eval x env = stuck m
run_to (suc depth) m scoping eval x env = stmt m scoping eval (run_to depth m scoping eval) x env

-- what a statement means, where names mean what `scoping` says and expressions `eval`
abbrev pub run_in : {S R V : Type 0} → Primitives S → Scoping R V → Eval S V → Stmt → Exec S V
run_in m scoping eval = run_to max_layers m scoping eval
