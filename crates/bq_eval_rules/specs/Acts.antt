-- What a call of the evaluator did: its answer and the state after it are those of the definition's run, unless memory ran out.
use Rattle.std.specs.Prelude.{◌≡◌, Result, Ok, Err}
use Rattle.bq_base.specs.declared.fault.EvalFault.{EvalFault}
use Rattle.bq_value.specs.declared.error.EvalErr.{EvalErr}
use Rattle.bq_value.specs.declared.error.EvalErr.TheVariants.{Bad}
use Rattle.bq_value.specs.Datum.{Datum}
use Rattle.bq_builtin_machine.specs.Action.{Run, Ends, stopped}
use Rattle.bq_builtin_machine.specs.State.{stop_at}
use Rattle.bq_eval_spec.specs.Primitives.{Primitives}
use Rattle.bq_eval_rules.specs.Answers.{AnswerPlace}

-- a call's answer, seen by `view`, and the state after it are what the run ends in, out of memory aside
abbrev pub Acts : {S A B : Type 0} → Primitives S → (A → B) → Result A EvalErr → S → Run S B → Type 0
Acts m view result s run = Ends view result s (m.machine s) run

-- A call did the first part of a run: `left` is what is still to be done, unless the run stopped there, or memory ran out.
abbrev pub Leaves : {S A B : Type 0} → Primitives S → (A → Run S B) → Result A EvalErr → S → Run S B → Type 0
Leaves m left (Ok x) s run = run ≡ left x
Leaves m left (Err e) s run = (why : EvalFault) → e ≡ Bad why → run ≡ stopped (stop_at why (m.machine s))

-- A call went on from an answer: of its value it did this run, from the state before it to the one after it. Where there is no value, it
-- changed nothing.
abbrev pub ActsOn : {S A B : Type 0} → Primitives S → (A → B) → AnswerPlace → (Datum → Run S B) → S → Result A EvalErr → S → Type 0
ActsOn m view (Ok v) run before result after = Acts m view result after (run v)
ActsOn m view (Err e) run before result after = (result ≡ Err e) × (after ≡ before)
