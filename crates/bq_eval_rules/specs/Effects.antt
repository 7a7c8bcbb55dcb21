-- What a call of the evaluator did, a word for each kind of call. Each says that the call did what an action of the
-- definition does, unless memory ran out. After the action come what was there before the call, its result, and what is
-- there after it. `seen` is what contracts see of the runtime.
use Rattle.std.specs.Prelude.{Result}
use Rattle.bq_value.specs.declared.error.EvalErr.{EvalErr}
use Rattle.bq_value.specs.Contents.{Contents}
use Rattle.bq_value.specs.Datum.{Datum}
use Rattle.bq_builtin_machine.specs.Action.{Action, ◌>>=◌, pure}
use Rattle.bq_eval_spec.specs.Comprehensions.{Turn}
use Rattle.bq_eval_spec.specs.Frame.{Frame}
use Rattle.bq_eval_spec.specs.Primitives.{Primitives}
use Rattle.bq_eval_spec.specs.Statements.{Exec, Flow, next}
use Rattle.bq_eval_spec.specs.Targets.{Places}
use Rattle.bq_eval_frame.specs.Slots.{Slots, slots_of}
use Rattle.bq_eval_rules.specs.declared.flow.Ending.{Ending}
use Rattle.bq_eval_rules.specs.Acts.{Acts, ActsOn}
use Rattle.bq_eval_rules.specs.Answers.{AnswerPlace}
use Rattle.bq_eval_rules.specs.Flows.{ending_of}

module _ {R S : Type 0} (m : Primitives S) (seen : R → S) where
  -- the call returns what the action gives
  abbrev pub Returns : {A : Type 0} → Action S A → R → Result A EvalErr → R → Type 0
  Returns action old result new = Acts m (λ x. x) result (seen new) (action (seen old))

  -- what the action gives is `made`, which the call leaves where its arguments are
  abbrev pub Produces : {A B : Type 0} → B → Action S B → R → Result A EvalErr → R → Type 0
  Produces made action old result new = Acts m (λ _. made) result (seen new) (action (seen old))

  -- what the action makes of the frame is the frame after the call
  abbrev pub Rebinds : {A : Type 0} → (Frame → Action S Frame) → Slots → R → Result A EvalErr → Slots → R → Type 0
  Rebinds action frame old result changed new =
      Acts m (λ _. slots_of changed) result (seen new) (action (slots_of frame) (seen old))

  -- the call runs statements: this is what comes after them, and it leaves their frame
  abbrev pub Executes : Exec S Frame → Slots → R → Result Flow EvalErr → Slots → R → Type 0
  Executes exec frame old flow changed new =
      Acts m (λ f. (f, slots_of changed)) flow (seen new) (exec (slots_of frame) (seen old))

  -- the call makes of the frame what the action makes of it, and the next statement comes after it
  abbrev pub Changes : (Frame → Action S Frame) → Slots → R → Result Flow EvalErr → Slots → R → Type 0
  Changes action frame old flow changed new = Executes (λ env. action env >>= λ made. pure (next, made)) frame old flow changed new

  -- the call runs statements of a file
  abbrev pub ExecutesLines : Exec S Frame → Slots → R → Result Ending EvalErr → Slots → R → Type 0
  ExecutesLines exec frame old result changed new =
      Acts m (λ f. (ending_of f, slots_of changed)) result (seen new) (exec (slots_of frame) (seen old))

  -- these of a call that goes on from an answer: where that has no value, there is none, and the call does nothing

  abbrev pub ReturnsOn : {A : Type 0} → AnswerPlace → (Datum → Action S A) → R → Result A EvalErr → R → Type 0
  ReturnsOn given action old result new = ActsOn m (λ x. x) given (λ v. action v (seen old)) (seen old) result (seen new)

  abbrev pub ExecutesOn : AnswerPlace → (Datum → Exec S Frame) → Slots → R → Result Flow EvalErr → Slots → R → Type 0
  ExecutesOn given exec frame old flow changed new =
      ActsOn m (λ f. (f, slots_of changed)) given (λ v. exec v (slots_of frame) (seen old)) (seen old) flow (seen new)

  abbrev pub ChangesOn : AnswerPlace → (Datum → Frame → Action S Frame) → Slots → R → Result Flow EvalErr → Slots → R → Type 0
  ChangesOn given action frame old flow changed new =
      ExecutesOn given (λ v env. action v env >>= λ made. pure (next, made)) frame old flow changed new

  -- the call binds parts of a target: it changes the frame, and takes from the places that are left
  abbrev pub BindsParts : {A : Type 0} → (Frame → Places → Action S (Frame × Places)) → Slots → Places → R
      → Result A EvalErr → Slots → Places → R → Type 0
  BindsParts action frame places old result changed left new =
      Acts m (λ _. (slots_of changed, left)) result (seen new) (action (slots_of frame) places (seen old))

  -- the call does a part of a comprehension: it changes the frame, and adds to the list or dict so far
  abbrev pub Collects : {A : Type 0} → Turn S Frame → Frame → Contents → R → Result A EvalErr → Frame → Contents → R → Type 0
  Collects part frame content old result changed filled new =
      Acts m (λ _. (filled, changed)) result (seen new) (part frame content (seen old))
