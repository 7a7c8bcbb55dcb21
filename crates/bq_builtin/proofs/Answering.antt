-- What is given to a run is what the run says.
use Rattle.std.proofs.Common.{◌≡◌, ◌∙◌, refl, sym, ap, Result, Ok, Err}
use Rattle.bq_base.specs.Gives.{Gives}
use Rattle.bq_base.specs.declared.fault.EvalFault.{EvalFault}
use Rattle.bq_value.specs.declared.error.EvalErr.{EvalErr}
use Rattle.bq_value.specs.declared.error.EvalErr.TheVariants.{Bad}
use Rattle.bq_builtin_machine.specs.State.{State}
use Rattle.bq_builtin_machine.specs.Action.{Run, done, stopped, given, Does}

module _ {A : Type 0} (s : State) where
  abbrev read : Run State A → Result A EvalFault
  read (done a t) = Ok a
  read (stopped why) = Err why.kind

  read_given : (r : Result A EvalFault) → read (given r s) ≡ r
  read_given (Ok a) = refl
  read_given (Err kind) = refl

  pub gives_what_is_given : (r : Result A EvalFault) (result : Result A EvalErr) → Does (λ a. a) result s (given r s) → Gives (λ a. a) Bad result r
  gives_what_is_given r (Ok a) h = sym (read_given r) ∙ ap read h
  gives_what_is_given r (Err e) h = λ why is. sym (read_given r) ∙ ap read (h why is)
