-- The laws of flow: where a run goes on after a statement. `break` and `continue` end a turn of the innermost loop, `return` ends the
-- function, and what is after them is not evaluated (Starlark specification, "For loops", "Break and continue statements", "Return
-- statements").
use Rattle.std.specs.Prelude.{◌≡◌, ◌≢◌, List, [], ◌∷◌, Some, None}
use Rattle.bq_parse_grammar.specs.declared.tree.Branch.{Branch}
use Rattle.bq_parse_grammar.specs.declared.tree.Expr.{Expr}
use Rattle.bq_parse_grammar.specs.declared.tree.Load.{Load}
use Rattle.bq_parse_grammar.specs.declared.tree.Operator.{Operator}
use Rattle.bq_parse_grammar.specs.declared.tree.SmallKind.{SmallKind}
use Rattle.bq_parse_grammar.specs.declared.tree.SmallKind.TheVariants as small
use Rattle.bq_parse_grammar.specs.declared.tree.SmallStmt.{SmallStmt}
use Rattle.bq_parse_grammar.specs.declared.tree.Stmt.{Stmt, out-Stmt}
use Rattle.bq_parse_grammar.specs.declared.tree.Stmt.TheOpen.{Stmt-F}
use Rattle.bq_parse_grammar.specs.declared.tree.TargetExpr.{TargetExpr}
use Rattle.bq_resolve_scope.specs.declared.file.Def.{Def}
use Rattle.bq_resolve_scope.specs.declared.file.FileLine.{FileLine}
use Rattle.bq_resolve_scope.specs.declared.file.Function.{Function}
use Rattle.bq_resolve_scope.specs.declared.file.Outside.TheVariants as outside
use Rattle.bq_value.specs.Datum.{Datum, none, function, data_of}
use Rattle.bq_builtin_machine.specs.Action.{done, stopped}
use Rattle.bq_builtin_machine.specs.State.{Stop}
use Rattle.bq_eval_spec.specs.Primitives.{Primitives}
use Rattle.bq_eval_spec.specs.Calls.{TreeUnit, body_of}
use Rattle.bq_eval_spec.specs.Environment.{Scoping}
use Rattle.bq_eval_spec.specs.Expressions.{eval_in}
use Rattle.bq_eval_spec.specs.Module.{Own, def_stmt, top_level, top_levels}
use Rattle.bq_eval_spec.specs.Statements.{Flow, next, leave, again, answer, Exec, small_stmt, line, block, branches, turn, for_loop, stmt, run_in}
use Rattle.bq_eval_spec.specs.Targets.{bind_variables, assign, augment}
use Rattle.bq_eval_spec.specs.Trees.{Eval, Calls}
use Rattle.bq_eval_laws.specs.Order.{Evaluates}
use Rattle.bq_eval_laws.specs.Steps.{small_steps}

-- ---- one statement after another

module _ {S V X : Type 0} (run : X → Exec S V) where
  -- These statements, one after another from the first environment and state on, end in this flow, environment and state. One that doesn't
  -- go on to the next ends them all: those after it are not evaluated.
  pub data RunsTo : List X → V → S → Flow → V → S → Type 0 where
    ran_all : {env : V} {s : S} → RunsTo [] env s next env s
    ran_one : {x : X} {xs : List X} {env mid new : V} {s t u : S} {flow : Flow} → run x env s ≡ done (next, mid) t → RunsTo xs mid t flow new u → RunsTo (x ∷ xs) env s flow new u
    ended_by : {x : X} {xs : List X} {env new : V} {s t : S} {flow : Flow} → flow ≢ next → run x env s ≡ done (flow, new) t → RunsTo (x ∷ xs) env s flow new t

  -- one of them stops, after those before it
  pub data RunStops : List X → V → S → Stop → Type 0 where
    stops_first : {x : X} {xs : List X} {env : V} {s : S} {why : Stop} → run x env s ≡ stopped why → RunStops (x ∷ xs) env s why
    stops_after : {x : X} {xs : List X} {env mid : V} {s t : S} {why : Stop} → run x env s ≡ done (next, mid) t → RunStops xs mid t why → RunStops (x ∷ xs) env s why

-- ---- loops

module _ {S V : Type 0} (once : Datum → Exec S V) where
  -- The turns of a loop over these elements, from the first environment and state on, end so. After `continue` comes the next turn; after
  -- `break` what is after the loop, and after `return` what is after the function: the elements that are left have no turn.
  pub data TurnsTo : List Datum → V → S → Flow → V → S → Type 0 where
    turned_all : {env : V} {s : S} → TurnsTo [] env s next env s
    turned_one : {v : Datum} {vs : List Datum} {env mid new : V} {s t u : S} {flow : Flow} → once v env s ≡ done (next, mid) t → TurnsTo vs mid t flow new u → TurnsTo (v ∷ vs) env s flow new u
    continued : {v : Datum} {vs : List Datum} {env mid new : V} {s t u : S} {flow : Flow} → once v env s ≡ done (again, mid) t → TurnsTo vs mid t flow new u → TurnsTo (v ∷ vs) env s flow new u
    broken : {v : Datum} {vs : List Datum} {env new : V} {s t : S} → once v env s ≡ done (leave, new) t → TurnsTo (v ∷ vs) env s next new t
    returned : {v w : Datum} {vs : List Datum} {env new : V} {s t : S} → once v env s ≡ done (answer w, new) t → TurnsTo (v ∷ vs) env s (answer w) new t

-- what comes after a loop is the next statement, or the end of the function: it is not the end of a turn, nor of a loop around it
abbrev pub EndsNoLoop : Flow → Type 0
EndsNoLoop next = Unit {0}
EndsNoLoop leave = ⊥
EndsNoLoop again = ⊥
EndsNoLoop (answer v) = Unit {0}

-- ---- small statements

module _ {S R V : Type 0} (m : Primitives S) (scoping : Scoping R V) (eval : Eval S V) where
  -- what a small statement does after its step
  pub data Does : SmallKind → V → S → Flow → V → S → Type 0 where
    breaks : {env : V} {s : S} → Does small.Break env s leave env s
    continues : {env : V} {s : S} → Does small.Continue env s again env s
    passes : {env : V} {s : S} → Does small.Pass env s next env s
    loads : {l : Load} {env : V} {s : S} → Does (small.Load l) env s next env s
    returns_none : {env : V} {s : S} → Does (small.Return None) env s (answer none) env s
    returns : {x : Expr} {v : Datum} {env : V} {s t : S} → eval x env s ≡ done v t → Does (small.Return (Some x)) env s (answer v) env t
    evaluates : {x : Expr} {v : Datum} {env : V} {s t : S} → eval x env s ≡ done v t → Does (small.Expr x) env s next env t
    assigns : {target : TargetExpr} {x : Expr} {v : Datum} {env new : V} {s t u : S} → eval x env s ≡ done v t → assign m scoping eval target v env t ≡ done new u
        → Does (small.Assign target x) env s next new u
    augments : {target : TargetExpr} {o : Operator} {x : Expr} {env new : V} {s t : S} → augment m scoping eval target o x env s ≡ done new t → Does (small.Augment target o x) env s next new t

module _ {S R V : Type 0} (m : Primitives S) (scoping : Scoping R V) where
  abbrev pub SmallStatementsDo : Type 0
  SmallStatementsDo =
      (eval : Eval S V) (x : SmallStmt) (env new : V) (r s t : S) (flow : Flow) → m.step (small_steps x.kind) r ≡ done tt s → Does m scoping eval x.kind env s flow new t
      → small_stmt m scoping eval x env r ≡ done (flow, new) t

  -- the small statements of a line
  abbrev pub LinesRunInOrder : Type 0
  LinesRunInOrder =
      (eval : Eval S V) (xs : List SmallStmt) (env : V) (s : S)
      → ((flow : Flow) (new : V) (t : S) → RunsTo (small_stmt m scoping eval) xs env s flow new t → line m scoping eval xs env s ≡ done (flow, new) t)
      × ((why : Stop) → RunStops (small_stmt m scoping eval) xs env s why → line m scoping eval xs env s ≡ stopped why)

  -- the statements of a block
  abbrev pub BlocksRunInOrder : Type 0
  BlocksRunInOrder =
      (eval : Eval S V) (run : Stmt → Exec S V) (xs : List Stmt) (env : V) (s : S)
      → ((flow : Flow) (new : V) (t : S) → RunsTo run xs env s flow new t → block m scoping eval run xs env s ≡ done (flow, new) t)
      × ((why : Stop) → RunStops run xs env s why → block m scoping eval run xs env s ≡ stopped why)

  -- the lines of a file
  abbrev pub FilesRunInOrder : Type 0
  FilesRunInOrder =
      (own : Own R V) (eval : Eval S V) (xs : List FileLine) (globals : V) (s : S)
      → ((flow : Flow) (new : V) (t : S) → RunsTo (top_level m scoping own eval) xs globals s flow new t → top_levels m scoping own eval xs globals s ≡ done (flow, new) t)
      × ((why : Stop) → RunStops (top_level m scoping own eval) xs globals s why → top_levels m scoping own eval xs globals s ≡ stopped why)

  -- the body of a loop runs once in a turn, after the variables have the element
  abbrev pub TurnsRunTheBody : Type 0
  TurnsRunTheBody =
      (eval : Eval S V) (run : Stmt → Exec S V) (t : TargetExpr) (body : List Stmt) (v : Datum) (env mid new : V) (r s u w : S) (flow : Flow) → m.step 1 r ≡ done tt s
      → bind_variables m scoping t v env s ≡ done mid u → RunsTo run body mid u flow new w → turn m scoping eval run t body v env r ≡ done (flow, new) w

  -- a loop evaluates what it goes over once, before its turns
  abbrev pub LoopsTurn : Type 0
  LoopsTurn =
      (eval : Eval S V) (run : Stmt → Exec S V) (target : TargetExpr) (x : Expr) (body : List Stmt) (v : Datum) (vs : List Datum) (env new : V) (s t u w : S) (flow : Flow) → eval x env s ≡ done v t
      → m.begin_walk v t ≡ done vs u → TurnsTo (turn m scoping eval run target body) vs env u flow new w → for_loop m scoping eval run target x body env s ≡ done (flow, new) (m.end_walk v w)

  -- no `break` and no `continue` in a loop ends a turn of a loop around it
  abbrev pub LoopsEndNoOther : Type 0
  LoopsEndNoOther =
      (eval : Eval S V) (run : Stmt → Exec S V) (target : TargetExpr) (x : Expr) (body : List Stmt) (env new : V) (s t : S) (flow : Flow)
      → for_loop m scoping eval run target x body env s ≡ done (flow, new) t → EndsNoLoop flow

  -- an `if` and a `for` take a step, and then they run a branch, the block of `else`, or a loop
  abbrev pub IfsRunABranch : Type 0
  IfsRunABranch =
      (eval : Eval S V) (run : Stmt → Exec S V) (x : Stmt) (bs : List Branch) (otherwise : List Stmt) (env : V) (r s : S) → out-Stmt x ≡ Stmt-F.If bs otherwise → m.step 1 r ≡ done tt s
      → (stmt m scoping eval run x env r ≡ branches m scoping eval run bs otherwise env s) × (branches m scoping eval run [] otherwise env s ≡ block m scoping eval run otherwise env s)

  abbrev pub ForsRunALoop : Type 0
  ForsRunALoop =
      (eval : Eval S V) (run : Stmt → Exec S V) (x : Stmt) (target : TargetExpr) (over : Expr) (body : List Stmt) (env : V) (r s : S) → out-Stmt x ≡ Stmt-F.For target over body → m.step 1 r ≡ done tt s
      → stmt m scoping eval run x env r ≡ for_loop m scoping eval run target over body env s

  -- a function gives what its body returns, or `None` where the body ends without `return`
  abbrev pub FunctionsGiveWhatTheyReturn : Type 0
  FunctionsGiveWhatTheyReturn =
      (inner : Calls S) (u : TreeUnit R) (d : Function) (env new : V) (s t : S)
      → ((v : Datum) → RunsTo (run_in m scoping (eval_in m scoping inner u.round)) d.body env s (answer v) new t → body_of m scoping inner u d env s ≡ done v t)
      × (RunsTo (run_in m scoping (eval_in m scoping inner u.round)) d.body env s next new t → body_of m scoping inner u d env s ≡ done none t)

  -- the defaults of a `def` are evaluated from left to right, and the name has the function after that
  abbrev pub DefaultsFirst : Type 0
  DefaultsFirst =
      (own : Own R V) (eval : Eval S V) (d : Def) (globals : V) (vs : List Datum) (r s t : S) → m.step 1 r ≡ done tt s → Evaluates eval globals d.defaults s vs t
      → def_stmt m scoping own eval d globals r ≡ done (next, scoping.bind globals d.name (function own.number d.function d.name.name (data_of vs))) t

  -- what is on a line of a file runs there, so that its faults name that line
  abbrev pub FileLinesRunThere : Type 0
  FileLinesRunThere =
      (own : Own R V) (eval : Eval S V) (l : FileLine) (globals : V) (s : S)
      → ((xs : List SmallStmt) → l.statement ≡ outside.Simple xs → top_level m scoping own eval l globals s ≡ line m scoping eval xs globals (m.at_line l.line s))
      × ((d : Def) → l.statement ≡ outside.Def d → top_level m scoping own eval l globals s ≡ def_stmt m scoping own eval d globals (m.at_line l.line s))
