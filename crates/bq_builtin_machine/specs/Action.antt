-- Actions: what a part of a program does, from a state to a value and the state after it, or to why it stops there.
--
-- The words are for any state, so that the evaluator writes its rules in them where a host keeps something beside the machine's state.
use Rattle.std.specs.Prelude.{◌≡◌, Result, Ok, Err}
use Rattle.bq_base.specs.declared.fault.EvalFault.{EvalFault}
use Rattle.bq_value.specs.declared.error.EvalErr.{EvalErr}
use Rattle.bq_value.specs.declared.error.EvalErr.TheVariants.{Bad}
use Rattle.bq_builtin_machine.specs.State.{State, Stop, stop_at}

-- how a run of an action ends
pub data Run (S A : Type 0) : Type 0 where
  done : A → S → Run S A
  stopped : Stop → Run S A

-- what an evaluation does in a state: it gives a value and the next state, or it stops
abbrev pub Action : Type 0 → Type 0 → Type 0
Action S A = S → Run S A

-- what follows a run, unless that stopped
abbrev pub following : {S A B : Type 0} → Run S A → (A → Action S B) → Run S B
following (done a s) next = next a s
following (stopped why) next = stopped why

infixl 10 ◌>>=◌
infixl 10 ◌>>◌
-- one action, and then another, which knows what the first one gave
abbrev pub ◌>>=◌ : {S A B : Type 0} → Action S A → (A → Action S B) → Action S B
first >>= next = λ s. following (first s) next

-- one action, and then another
abbrev pub ◌>>◌ : {S A B : Type 0} → Action S A → Action S B → Action S B
first >> next = λ s. following (first s) (λ _. next)

-- a value, and nothing done
abbrev pub pure : {S A : Type 0} → A → Action S A
pure a = λ s. done a s

-- a fault
abbrev pub stop : {A : Type 0} → EvalFault → Action State A
stop kind = λ s. stopped (stop_at kind s)

-- an answer that needs no state, or its fault
abbrev pub given : {A : Type 0} → Result A EvalFault → Action State A
given (Ok a) = pure a
given (Err kind) = stop kind

-- an answer from the state, which stays as it is
abbrev pub look : {A : Type 0} → (State → Result A EvalFault) → Action State A
look f = λ s. given (f s) s

-- a change of the state
abbrev pub change : (State → State) → Action State (Unit {0})
change f = λ s. done tt (f s)

-- the state of the machine, and what a host keeps
abbrev pub beside : {W A : Type 0} → W → Run State A → Run (State × W) A
beside w (done a s) = done a (s, w)
beside w (stopped why) = stopped why

-- an action of the machine, which leaves alone what a host keeps
abbrev pub on_machine : {W A : Type 0} → Action State A → Action (State × W) A
on_machine action = λ p. beside p.1 (action p.0)

-- What a call did, of which the state after it and the run that the definition gives are known: that run, unless memory ran out. A
-- call that stops leaves of the state what a `Stop` has.
abbrev pub Ends : {S A B : Type 0} → (A → B) → Result A EvalErr → S → State → Run S B → Type 0
Ends view (Ok x) after machine run = run ≡ done (view x) after
Ends view (Err e) after machine run = (why : EvalFault) → e ≡ Bad why → run ≡ stopped (stop_at why machine)

-- what a call did that left the machine in this state: the run that the definition gives, unless memory ran out
abbrev pub Does : {A B : Type 0} → (A → B) → Result A EvalErr → State → Run State B → Type 0
Does view result machine run = Ends view result machine machine run

-- what a call did, where a host keeps something beside the state
abbrev pub HostDoes : {W A B : Type 0} → (A → B) → Result A EvalErr → State → W → Run (State × W) B → Type 0
HostDoes view result machine kept run = Ends view result (machine, kept) machine run
