-- What an evaluator has: what the expressions inside, calls and names mean, and a function value that evaluates the
-- expressions inside.
use Rattle.std.specs.Prelude.{ℕ, ℤ, Option}
use denote.Ref.{Bor, MutBor}
use Rattle.bq_parse_grammar.specs.declared.tree.Expr.{Expr}
use Rattle.bq_value.specs.Datum.{Datum}
use Rattle.bq_builtin_machine.specs.Action.{Action}
use Rattle.bq_eval_spec.specs.Frame.{Frame, Surroundings}
use Rattle.bq_eval_spec.specs.Primitives.{Primitives}
use Rattle.bq_eval_spec.specs.Trees.{Eval, Calls}
use Rattle.bq_eval_frame.specs.Slots.{Slots, slots_of}
use Rattle.bq_eval_rules.specs.declared.context.Context.{Context}
use Rattle.bq_eval_rules.specs.declared.evaluator.Evaluator.{Evaluator}
use Rattle.bq_eval_rules.specs.Answers.{AnswerPlace}
use Rattle.bq_eval_rules.specs.Nests.{Nests, nested}
use Rattle.bq_eval_rules.specs.Round.{inside, round_of}

module _ {R C F : Type 0} where
  -- what an expression inside means
  abbrev pub evals_in : {S : Type 0} → Primitives S → Evaluator R C F → Eval S Frame
  evals_in m e = nested m e.depth e.context.now

  -- what calls mean
  abbrev pub calls_in : {S : Type 0} → Primitives S → Evaluator R C F → Calls S
  calls_in m e = inside m e.context.now

  -- the values of the names of the file
  abbrev pub round_in : Evaluator R C F → Surroundings
  round_in e = round_of e.context.now

  -- the values of local names
  abbrev pub frame_of : Evaluator R C F → Frame
  frame_of e = slots_of e.frame.now

  -- the evaluation of an expression inside
  abbrev pub value_inside : {S : Type 0} → Primitives S → Evaluator R C F → Expr → Action S Datum
  value_inside m e x = evals_in m e x (frame_of e)

  -- its function value evaluates expressions inside
  abbrev pub EvaluatesInside : {S : Type 0} → Primitives S → (R → S) → Evaluator R C F
      → (F → Bor Context → ℕ → C → Bor Slots → MutBor R → Bor Expr → MutBor AnswerPlace → Type 0)
      → (F → Bor Context → ℕ → C → Bor Slots → MutBor R → Bor Expr → MutBor AnswerPlace → Option ℤ → MutBor R → MutBor AnswerPlace → Type 0) → Type 0
  EvaluatesInside m seen e pre post = Nests m seen e.context.now.left e.depth e.call (pre e.eval) (post e.eval)
