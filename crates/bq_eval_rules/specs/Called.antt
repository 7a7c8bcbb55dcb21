-- What is called.
use Rattle.std.specs.Prelude.{◌≡◌, List}
use Rattle.bq_base.specs.declared.fault.EvalFault.TheVariants.{WrongType}
use Rattle.bq_value.specs.Datum.{Datum}
use Rattle.bq_value_datum.specs.declared.value.FunctionValue.{FunctionValue}
use Rattle.bq_builtin_machine.specs.Action.{Action, ◌>>=◌, pure}
use Rattle.bq_builtin_machine.specs.Args.{Passed}
use Rattle.bq_eval_spec.specs.Calls.{entry}
use Rattle.bq_eval_spec.specs.Slots.{by_slots}
use Rattle.bq_eval_spec.specs.Frame.{Frame}
use Rattle.bq_eval_spec.specs.Primitives.{Primitives, change, stop}
use Rattle.bq_eval_frame.specs.Slots.{slots_of}
use Rattle.bq_eval_rules.specs.declared.called.Called.{Called}
use Rattle.bq_eval_rules.specs.declared.called.Called.TheVariants as form
use Rattle.bq_eval_rules.specs.declared.called.ProgramFunction.{ProgramFunction}
use Rattle.bq_eval_rules.specs.declared.context.Context.{Context}
use Rattle.bq_eval_rules.specs.ContextCalls.{body_here, call_here, call_place}
use Rattle.bq_eval_rules.specs.Round.{inside}
use Rattle.bq_eval_rules.specs.TreeUnits.{unit_of}

module _ {S : Type 0} (m : Primitives S) (c : Context) where
  -- a function, in the frame with which it begins
  unfoldable pub entered : ProgramFunction → Frame → Action S Datum
  entered k env =
      m.enter k.called.now.«module» k.called.now.place >>= λ _. body_here m c (unit_of k.unit) k.function.now env
      >>= λ v. change m m.leave >>= λ _. pure v

  -- no module has a function value's function: it can't be called (F40)
  abbrev pub LacksFunction : FunctionValue → Type 0
  LacksFunction f = (ds : List Datum) (p : Passed) (s : S) → call_place m c f.«module» f.place ds p s ≡ stop m WrongType s

  -- a call of a function value is one of its function
  abbrev pub HasFunction : ProgramFunction → Type 0
  HasFunction k =
      (ds : List Datum) (p : Passed) (s : S)
      → call_place m c k.called.now.«module» k.called.now.place ds p s ≡ call_here m c k.called.now.«module» k.called.now.place (unit_of k.unit) k.function.now ds p s

  -- a value is this function: a call of it begins with its frame
  abbrev pub IsCallee : Datum → ProgramFunction → Type 0
  IsCallee v k = (p : Passed) (s : S) → inside m c v p s ≡ (entry m by_slots k.function.now k.called.now.defaults.items p >>= entered k) s

  -- a call
  abbrev pub called_in : Called → Action S Datum
  called_in (form.Value v p) = inside m c v.now p
  called_in (form.Entered k frame) = entered k (slots_of frame)
