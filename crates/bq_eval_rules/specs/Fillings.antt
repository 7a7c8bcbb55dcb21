-- What is still to go into a frame.
use Rattle.std.specs.Prelude.{Result}
use Rattle.bq_value.specs.declared.error.EvalErr.{EvalErr}
use Rattle.bq_value.specs.Datum.{tuple, data_of}
use Rattle.bq_builtin_machine.specs.Action.{Action}
use Rattle.bq_eval_spec.specs.Frame.{Frame}
use Rattle.bq_eval_spec.specs.Calls.{Filling}
use Rattle.bq_eval_spec.specs.Primitives.{Primitives}
use Rattle.bq_eval_frame.specs.Slots.{Slots, slots_of}
use Rattle.bq_eval_rules.specs.declared.filling.Filling as code
use Rattle.bq_eval_rules.specs.Acts.{Acts}

-- that of the code, and the frame so far
abbrev pub filling_of : code.Filling → Frame → Filling Frame
filling_of x frame = record { values = x.values.now; defaults = x.defaults.now; rest = tuple (data_of x.rest.now); keywords = x.keywords.now; env = frame }

-- a call that only reads the runtime did an action: what is then still to go into the frame is what the action gives
abbrev pub FillsFrame : {R S : Type 0} → Primitives S → (R → S) → Action S (Filling Frame) → R → Result code.Filling EvalErr → Slots → Type 0
FillsFrame m seen action runtime result frame = Acts m (λ x. filling_of x (slots_of frame)) result (seen runtime) (action (seen runtime))
