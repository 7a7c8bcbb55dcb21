-- Function values that call, and function values that evaluate what is inside.
use Rattle.std.specs.Prelude.{ℕ, ◌≤◌, ℤ, Option, Result}
use denote.Ref.{Bor, MutBor}
use Rattle.bq_parse_grammar.specs.declared.tree.Expr.{Expr}
use Rattle.bq_value.specs.declared.error.EvalErr.{EvalErr}
use Rattle.bq_value.specs.Datum.{Datum}
use Rattle.bq_eval_spec.specs.Frame.{Frame}
use Rattle.bq_eval_spec.specs.Primitives.{Primitives}
use Rattle.bq_eval_spec.specs.Trees.{Eval}
use Rattle.bq_eval_spec.specs.Expressions.{expr_to}
use Rattle.bq_eval_spec.specs.Slots.{by_slots}
use Rattle.bq_eval_frame.specs.Slots.{Slots, slots_of}
use Rattle.bq_eval_rules.specs.declared.called.Called.{Called}
use Rattle.bq_eval_rules.specs.declared.context.Context.{Context}
use Rattle.bq_eval_rules.specs.Acts.{Acts}
use Rattle.bq_eval_rules.specs.Answers.{AnswerPlace, answer_of}
use Rattle.bq_eval_rules.specs.Called.{called_in}
use Rattle.bq_eval_rules.specs.Round.{round_of, inside}

-- what an expression inside means, to a depth
abbrev pub nested : {S : Type 0} → Primitives S → ℕ → Context → Eval S Frame
nested m depth c = expr_to depth m by_slots (inside m c) (round_of c)

-- `seen` is what contracts see of the runtime. It may be called where at most `bound` functions may still become active, for expressions that are
-- at most `depth` layers deep.
pub record Nests {R S C : Type 0} (m : Primitives S) (seen : R → S) (bound depth : ℕ) (call : C)
    (pre : Bor Context → ℕ → C → Bor Slots → MutBor R → Bor Expr → MutBor AnswerPlace → Type 0)
    (post : Bor Context → ℕ → C → Bor Slots → MutBor R → Bor Expr → MutBor AnswerPlace → Option ℤ → MutBor R → MutBor AnswerPlace → Type 0) : Type 0 where
  pub callable : (c : Bor Context) (d : ℕ) (f : Bor Slots) (r : MutBor R) (x : Bor Expr) (out : MutBor AnswerPlace) → c.now.left ≤ bound → d ≤ depth → pre c d call f r x out
  pub says : (c : Bor Context) (d : ℕ) (f : Bor Slots) (old new : MutBor R) (x : Bor Expr) (lent out : MutBor AnswerPlace) (result : Option ℤ) → d ≤ depth → post c d call f old x lent result new out
      → Acts m (λ v. v) (answer_of result out.now) (seen new.now) (nested m d c.now x.now (slots_of f.now) (seen old.now))

-- A function value that calls. It may be called where at most `bound` functions may still become active.
pub record Answers {R S : Type 0} (m : Primitives S) (seen : R → S) (bound : ℕ)
    (pre : Bor Context → MutBor R → Called → Type 0)
    (post : Bor Context → MutBor R → Called → Result Datum EvalErr → MutBor R → Type 0) : Type 0 where
  pub callable : (c : Bor Context) (r : MutBor R) (x : Called) → c.now.left ≤ bound → pre c r x
  pub says : (c : Bor Context) (old new : MutBor R) (x : Called) (result : Result Datum EvalErr) → post c old x result new
      → Acts m (λ v. v) result (seen new.now) (called_in m c.now x (seen old.now))

-- a function value answers calls in a context
abbrev pub AnswersCalls : {R S C : Type 0} → Primitives S → (R → S) → Context → C
    → (C → Bor Context → MutBor R → Called → Type 0)
    → (C → Bor Context → MutBor R → Called → Result Datum EvalErr → MutBor R → Type 0) → Type 0
AnswersCalls m seen c call pre post = Answers m seen c.left (pre call) (post call)
