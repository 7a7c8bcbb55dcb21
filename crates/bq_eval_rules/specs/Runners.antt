-- What a runner has: the meaning of the statements inside, and a function value that runs them.
use Rattle.std.specs.Prelude.{◌≡◌, ℕ, List, Result, Ok, Err}
use denote.Ref.{Bor, MutBor}
use Rattle.bq_parse_grammar.specs.declared.tree.Stmt.{Stmt}
use Rattle.bq_parse_grammar.specs.declared.tree.TargetExpr.{TargetExpr}
use Rattle.bq_value.specs.declared.error.EvalErr.{EvalErr}
use Rattle.bq_value.specs.Datum.{Datum}
use Rattle.bq_builtin_machine.specs.Action.{done, ◌>>=◌}
use Rattle.bq_eval_spec.specs.Frame.{Frame, Surroundings}
use Rattle.bq_eval_spec.specs.Primitives.{Primitives}
use Rattle.bq_eval_spec.specs.Environment.{Scoping}
use Rattle.bq_eval_spec.specs.Slots.{by_slots}
use Rattle.bq_eval_spec.specs.Statements.{Exec, Flow, run_to, turns}
use Rattle.bq_eval_spec.specs.Trees.{Eval}
use Rattle.bq_eval_frame.specs.Slots.{Slots}
use Rattle.bq_eval_rules.specs.declared.context.Context.{Context}
use Rattle.bq_eval_rules.specs.declared.flow.Flow as flows
use Rattle.bq_eval_rules.specs.declared.statements.Runner.{Runner}
use Rattle.bq_eval_rules.specs.Answers.{AnswerPlace}
use Rattle.bq_eval_rules.specs.Readers.{evals_of}
use Rattle.bq_eval_rules.specs.Runs.{Runs}

-- the state after the end of a walk over this value, unless the loop stopped
abbrev pub WalkEnds : {S : Type 0} → Primitives S → Result Flow EvalErr → Datum → S → S → Type 0
WalkEnds m (Ok f) v old new = new ≡ m.end_walk v old
WalkEnds m (Err e) v old new = new ≡ old

module _ {R C G : Type 0} where
  -- what a statement inside means
  abbrev pub execs_in : {S : Type 0} → Primitives S → Runner R C G → Stmt → Exec S Frame
  execs_in m r = run_to r.depth m by_slots (evals_of m r.reader)

  -- a rule of the definition, with what the expressions and the statements inside mean
  abbrev pub rule_in : {S A : Type 0} → Primitives S → Runner R C G → (Primitives S → Scoping Surroundings Frame → Eval S Frame → (Stmt → Exec S Frame) → A) → A
  rule_in m r rule = rule m by_slots (evals_of m r.reader) (execs_in m r)

  -- the turns of a `for` over the elements that this value has when it begins
  abbrev pub walk : {S : Type 0} → Primitives S → Runner R C G → TargetExpr → Datum → List Stmt → Exec S Frame
  walk m r t v body env =
      m.begin_walk v >>= λ vs. rule_in m r turns t body vs env >>= λ flow. λ s. done flow (m.end_walk v s)

  -- its function value runs statements inside
  abbrev pub RunsInside : {S : Type 0} → Primitives S → (R → S) → Runner R C G
      → (G → Bor Context → ℕ → C → MutBor Slots → MutBor R → Bor Stmt → MutBor AnswerPlace → Type 0)
      → (G → Bor Context → ℕ → C → MutBor Slots → MutBor R → Bor Stmt → MutBor AnswerPlace → flows.Flow → MutBor Slots → MutBor R → MutBor AnswerPlace → Type 0)
      → Type 0
  RunsInside m seen r pre post = Runs m seen r.reader.context.now.left r.depth r.reader.call (pre r.run) (post r.run)
