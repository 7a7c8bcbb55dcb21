-- The law of names for statements: what a statement does by names, the tree that it resolves to does by slots.
use Rattle.std.specs.Prelude.{◌≡◌, ◌≤◌, ℕ, List, [], ◌∷◌, length, Bool, true, false, Ok}
use Rattle.bq_parse_grammar.specs.declared.tree.Expr.{Expr}
use Rattle.bq_parse_grammar.specs.declared.tree.Parameter.{Parameter}
use Rattle.bq_parse_grammar.specs.declared.tree.SmallStmt.{SmallStmt}
use Rattle.bq_parse_grammar.specs.declared.tree.Stmt.{Stmt}
use Rattle.bq_resolve_scope.specs.Names.{Name, has, place_among, function_names}
use Rattle.bq_resolve_scope.specs.Scope.{BlockParts, FileParts}
use Rattle.bq_resolve_scope.specs.Statements as scope
use Rattle.bq_resolve_scope.specs.Visit.{Passed, each}
use Rattle.bq_resolve_laws.specs.Binds.{StmtBindsTo}
use Rattle.bq_eval_spec.specs.Frame.{Frame, Surroundings}
use Rattle.bq_eval_spec.specs.Primitives.{Primitives}
use Rattle.bq_eval_spec.specs.Expressions.{eval_in}
use Rattle.bq_eval_spec.specs.Slots.{by_slots}
use Rattle.bq_eval_spec.specs.Statements as language
use Rattle.bq_eval_spec.specs.Statements.{Flow}
use Rattle.bq_eval_spec.specs.Trees.{Eval, Calls}
use Rattle.bq_eval_spec.specs.Names.{Env, Round, by_names}
use Rattle.bq_eval_by_name.specs.Alike.{Alike}
use Rattle.bq_eval_by_name.specs.Shows.{Below, Nested, Reads, Shows}

-- what statements end with: the same comes after them, and of the environments `R` holds
abbrev pub Ended : {V W : Type 0} → (V → W → Type 0) → Flow × V → Flow × W → Type 0
Ended R r q = (r.0 ≡ q.0) × R r.1 q.1

-- What expressions mean by names and by slots is the same, in environments and frames of which `R` holds.
abbrev pub EvalsAgree : {S : Type 0} → FileParts → List BlockParts → (Env → Frame → Type 0) → Eval S Env → Eval S Frame → Type 0
EvalsAgree {S} file blocks R eval other =
    (x z : Expr) (p q : Passed) → Below blocks p.slots → scope.expr file blocks x p ≡ Ok (z, q) → (env : Env) (frame : Frame) (s : S) → R env frame → eval x env s ≡ other z frame s

-- The blocks that are open in a function, and what expressions mean there by names and by slots: both mean the same.
pub record InFunction (S : Type 0) (file : FileParts) : Type 0 where
  pub block : BlockParts
  pub rest : List BlockParts
  pub nested : Nested (block ∷ rest)
  pub eval : Eval S Env
  pub other : Eval S Frame
  pub evals : EvalsAgree file (block ∷ rest) (Shows (block ∷ rest)) eval other

-- A statement of a function that resolves, where the innermost block holds the names that the statement binds.
module _ {S : Type 0} (m : Primitives S) (file : FileParts) (block : BlockParts) (rest : List BlockParts) (eval : Eval S Env) (other : Eval S Frame) where
  abbrev pub StatementsAgree : Type 0
  StatementsAgree =
      (n : ℕ) (looping : Bool) (x z : Stmt) (p q : Passed) → Below (block ∷ rest) p.slots → scope.stmt_to file n (block ∷ rest) looping x p ≡ Ok (z, q)
      → ((name : Name) → StmtBindsTo n name x → has block.names name ≡ true)
      → (env : Env) (frame : Frame) (s : S) → Shows (block ∷ rest) env frame → Alike (Ended (Shows (block ∷ rest))) (language.run_to n m by_names eval x env s) (language.run_to n m by_slots other z frame s)

-- the body of a function
module _ {S : Type 0} (m : Primitives S) (file : FileParts) (round : Round) (surroundings : Surroundings) (call other : Calls S) where
  abbrev pub BodiesAgree : Type 0
  BodiesAgree =
      (ps : List Parameter) (body zs : List Stmt) (p q : Passed) → length (function_names ps body) ≤ p.slots → scope.statements_in file (function_names ps body) body p ≡ Ok (zs, q)
      → (env : Env) (frame : Frame) (s : S) → Shows (record { base = 0; names = function_names ps body } ∷ []) env frame
      → Alike (Ended (Shows (record { base = 0; names = function_names ps body } ∷ [])))
      (language.block m by_names (eval_in m by_names call round) (language.run_in m by_names (eval_in m by_names call round)) body env s)
      (language.block m by_slots (eval_in m by_slots other surroundings) (language.run_in m by_slots (eval_in m by_slots other surroundings)) zs frame s)

-- the frame has the values that the environment has for the file's globals, each in the slot of its place among them
abbrev pub GlobalsShow : FileParts → Env → Frame → Type 0
GlobalsShow file env frame = Reads (λ name. place_among name file.globals) env frame

module _ {S : Type 0} (m : Primitives S) (file : FileParts) (eval : Eval S Env) (other : Eval S Frame) where
  -- a line outside functions does the same by names and by slots, where the frame shows the environment
  abbrev pub LinesAgree : Type 0
  LinesAgree =
      (xs ys : List SmallStmt) (p q : Passed) → each (scope.small_stmt file [] false) [] xs p ≡ Ok (ys, q)
      → (env : Env) (frame : Frame) (s : S) → GlobalsShow file env frame → Alike (Ended (GlobalsShow file)) (language.line m by_names eval xs env s) (language.line m by_slots other ys frame s)
