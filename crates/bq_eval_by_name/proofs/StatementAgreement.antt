-- The laws: of statements, where binding keeps what an environment and a frame have in common, and then of functions and files, where it
-- does.
use Rattle.std.proofs.Common.{◌≡◌, ◌≤◌, ◌+◌, ℕ, Bool, true, false, List, [], ◌∷◌, length, inr, Ok, subst, arith}
use Rattle.bq_parse_grammar.specs.declared.tree.Parameter.{Parameter}
use Rattle.bq_parse_grammar.specs.declared.tree.SmallStmt.{SmallStmt}
use Rattle.bq_parse_grammar.specs.declared.tree.Stmt.{Stmt}
use Rattle.bq_resolve_scope.specs.Names.{Name, max_layers, has, function_names}
use Rattle.bq_resolve_scope.specs.Scope.{BlockParts, FileParts}
use Rattle.bq_resolve_scope.specs.Statements as scope
use Rattle.bq_resolve_scope.specs.Visit.{Passed}
use Rattle.bq_resolve_laws.specs.Binds.{AnyOf, StmtBinds, StmtBindsTo}
use Rattle.bq_resolve_laws.proofs.Binds.{function_binds}
use Rattle.bq_eval_spec.specs.Frame.{Frame, Surroundings}
use Rattle.bq_eval_spec.specs.Primitives.{Primitives}
use Rattle.bq_eval_spec.specs.Expressions.{eval_in}
use Rattle.bq_eval_spec.specs.Slots.{by_slots}
use Rattle.bq_eval_spec.specs.Statements.{run_to}
use Rattle.bq_eval_spec.specs.Trees.{Eval, Calls}
use Rattle.bq_eval_spec.specs.Names.{Env, Round, by_names}
use Rattle.bq_eval_by_name.specs.ExpressionAgreement.{CallsAgree}
use Rattle.bq_eval_by_name.specs.Alike.{Alike}
use Rattle.bq_eval_by_name.specs.Shows.{Below, Nested, Shows, Around}
use Rattle.bq_eval_by_name.proofs.Walks.{Pairwise, Walked}
use Rattle.bq_eval_by_name.proofs.ExpressionAgreement.{expressions_agree}
use Rattle.bq_eval_by_name.specs.StatementAgreement.{Ended, EvalsAgree, StatementsAgree, BodiesAgree, GlobalsShow, LinesAgree}
use Rattle.bq_eval_by_name.proofs.BoundNames.{IsKept, block_keeps, global_keeps}
use Rattle.bq_eval_by_name.proofs.Visits.{visits}
use Rattle.bq_eval_by_name.proofs.Statements.{RunsAlike, SmallAgree, line_alike, StmtAlike, block_alike}
use Rattle.bq_eval_by_name.proofs.ResolvedStatements.{line_walks, block_walks, stmt_walks}

-- ---- any statement

pub any_statement_agrees : {S : Type 0} (m : Primitives S) (file : FileParts) (blocks : List BlockParts) (R : Env → Frame → Type 0) (eval : Eval S Env) (other : Eval S Frame) → Nested blocks
    → EvalsAgree file blocks R eval other → (n : ℕ) (looping : Bool) (x z : Stmt) (p q : Passed) → Below blocks p.slots → scope.stmt_to file n blocks looping x p ≡ Ok (z, q)
    → ((name : Name) → StmtBindsTo n name x → IsKept file blocks R name)
    → (env : Env) (frame : Frame) (s : S) → R env frame → Alike (Ended R) (run_to n m by_names eval x env s) (run_to n m by_slots other z frame s)
any_statement_agrees m file blocks R eval other nested evals n looping x z p q below e kept env frame s h =
    (subst (λ r. Walked {A = Stmt} (λ w. RunsAlike m by_names by_slots R (run_to n m by_names eval x) (run_to n m by_slots other w)) p.slots r) e
    (stmt_walks m file R eval other blocks (visits m file blocks nested R eval other evals) n looping x kept p below)).1
    env frame h s

pub statements_agree : {S : Type 0} (m : Primitives S) (file : FileParts) (block : BlockParts) (rest : List BlockParts) (eval : Eval S Env) (other : Eval S Frame) → Nested (block ∷ rest)
    → EvalsAgree file (block ∷ rest) (Shows (block ∷ rest)) eval other → StatementsAgree m file block rest eval other
statements_agree m file block rest eval other nested evals n looping x z p q below e holds env frame s shows =
    any_statement_agrees m file (block ∷ rest) (Shows (block ∷ rest)) eval other nested evals n looping x z p q below e (λ name at. block_keeps file block rest nested name (holds name at)) env frame s shows

-- ---- the body of a function

module _ {S : Type 0} (m : Primitives S) (file : FileParts) (round : Round) (surroundings : Surroundings) (call other : Calls S) (around : Around file round surroundings) (called : CallsAgree call other) where
  block_evals : (blocks : List BlockParts) → Nested blocks → EvalsAgree file blocks (Shows blocks) (eval_in m by_names call round) (eval_in m by_slots other surroundings)
  unfolding scope.expr
  block_evals blocks nested x z p q below e env frame s shows = expressions_agree m file round surroundings call other around called blocks x z p q nested below e env frame s shows

  body_names : (ps : List Parameter) (body : List Stmt) (name : Name) → AnyOf (StmtBindsTo max_layers name) body → has (function_names ps body) name ≡ true
  unfolding StmtBinds
  body_names ps body name at = (function_binds ps body name).1 (inr at)

  pub bodies_agree : BodiesAgree m file round surroundings call other
  bodies_agree ps body zs p q room e env frame s shows =
      let block : BlockParts = record { base = 0; names = function_names ps body } in
      let below : 0 + length (function_names ps body) ≤ p.slots = omega (arith, room) in
      let eval : Eval S Env = eval_in m by_names call round in
      let within : Eval S Frame = eval_in m by_slots other surroundings in
      let evals = visits m file (block ∷ []) (tt, tt) (Shows (block ∷ [])) eval within (block_evals (block ∷ []) (tt, tt)) in
      block_alike m by_names by_slots (Shows (block ∷ [])) eval within (run_to max_layers m by_names eval) (run_to max_layers m by_slots within) body zs
      (subst
      (λ r. Walked {A = List Stmt} (λ ws. Pairwise (StmtAlike m by_names by_slots (Shows (block ∷ [])) eval within (run_to max_layers m by_names eval) (run_to max_layers m by_slots within)) body ws) p.slots r)
      e
      (block_walks m file (Shows (block ∷ [])) eval within (block ∷ []) evals max_layers (scope.stmt_to file max_layers (block ∷ []))
      (stmt_walks m file (Shows (block ∷ [])) eval within (block ∷ []) evals max_layers) false body
      (λ name at. block_keeps file block [] (tt, tt) name (body_names ps body name at)) p (below, tt))).1
      env frame shows s

-- ---- lines outside functions

pub lines_agree : {S : Type 0} (m : Primitives S) (file : FileParts) (eval : Eval S Env) (other : Eval S Frame) → EvalsAgree file [] (GlobalsShow file) eval other → LinesAgree m file eval other
lines_agree m file eval other evals xs ys p q e env frame s shows =
    line_alike m by_names by_slots (GlobalsShow file) eval other xs ys
    (subst (λ r. Walked {A = List SmallStmt} (λ zs. Pairwise (SmallAgree m by_names by_slots (GlobalsShow file) eval other) xs zs) p.slots r) e
    (line_walks m file (GlobalsShow file) eval other [] (visits m file [] tt (GlobalsShow file) eval other evals) false xs (λ name at. global_keeps file name) p tt)).1
    env frame shows s
