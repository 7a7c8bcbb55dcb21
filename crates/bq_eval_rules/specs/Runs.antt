-- Function values that run the statements inside.
use Rattle.std.specs.Prelude.{ℕ, ◌≤◌}
use denote.Ref.{Bor, MutBor}
use Rattle.bq_parse_grammar.specs.declared.tree.Stmt.{Stmt}
use Rattle.bq_eval_spec.specs.Primitives.{Primitives}
use Rattle.bq_eval_spec.specs.Statements.{run_to}
use Rattle.bq_eval_spec.specs.Slots.{by_slots}
use Rattle.bq_eval_frame.specs.Slots.{Slots, slots_of}
use Rattle.bq_eval_rules.specs.declared.context.Context.{Context}
use Rattle.bq_eval_rules.specs.declared.flow.Flow as flows
use Rattle.bq_eval_rules.specs.Acts.{Acts}
use Rattle.bq_eval_rules.specs.Answers.{AnswerPlace}
use Rattle.bq_eval_rules.specs.Flows.{flow_of}
use Rattle.bq_eval_rules.specs.Round.{evals}

-- the call can be made where at most `bound` functions may still become active, and does what `run_to` says
pub record Runs {R S C : Type 0} (m : Primitives S) (seen : R → S) (bound depth : ℕ) (call : C)
    (pre : Bor Context → ℕ → C → MutBor Slots → MutBor R → Bor Stmt → MutBor AnswerPlace → Type 0)
    (post : Bor Context → ℕ → C → MutBor Slots → MutBor R → Bor Stmt → MutBor AnswerPlace → flows.Flow → MutBor Slots → MutBor R → MutBor AnswerPlace → Type 0) : Type 0 where
  pub callable : (c : Bor Context) (f : MutBor Slots) (r : MutBor R) (x : Bor Stmt) (out : MutBor AnswerPlace) → c.now.left ≤ bound → pre c depth call f r x out
  pub says : (c : Bor Context) (f g : MutBor Slots) (old new : MutBor R) (x : Bor Stmt) (lent out : MutBor AnswerPlace) (flow : flows.Flow) → post c depth call f old x lent flow g new out
      → Acts m (λ r. (r, slots_of g.now)) (flow_of flow out.now) (seen new.now) (run_to depth m by_slots (evals m c.now) x.now (slots_of f.now) (seen old.now))
