-- Actions that have a number of steps and an outcome of their own.
use Rattle.std.specs.Prelude.{◌≡◌, ℕ, ◌+◌, ◌<◌, List, ◌++◌, Some, slice_get}
use Rattle.bq_base.specs.declared.fault.EvalFault.TheVariants.{StepLimit}
use Rattle.bq_value_datum.specs.Class.{Class}
use Rattle.bq_value.specs.Cells.{StoreView}
use Rattle.bq_value.specs.Contents.{rule}
use Rattle.bq_builtin_machine.specs.Action.{Action, Run, done, stopped}
use Rattle.bq_builtin_machine.specs.Machine.{with_steps}
use Rattle.bq_builtin_machine.specs.State.{State}

-- What is seen of a state: the same state with another number of steps left; what is printed; its store; and the line of the statement that
-- is running.
pub record Seen (S : Type 0) : Type 0 where
  pub left : ℕ → S → S
  pub prints : S → List (List ℕ)
  pub store : S → StoreView
  pub line : S → ℕ

-- of a machine
abbrev pub machine : Seen State
machine = record { left = with_steps; prints = λ s. s.prints; store = λ s. s.store; line = λ s. s.line }

-- of a machine, beside what a host keeps
abbrev pub hosted : {W : Type 0} → Seen (State × W)
hosted = record { left = λ n s. (with_steps n s.0, s.1); prints = λ s. s.0.prints; store = λ s. s.0.store; line = λ s. s.0.line }

-- What no action changes of a store: the running module's number, the frozen modules, and the rules that were declared.
pub record Stays (before after : StoreView) : Type 0 where
  pub own : after.own ≡ before.own
  pub modules : after.loaded ≡ before.loaded
  pub rules : (number : ℕ) (class : Class) → slice_get before.cells number ≡ Some (rule class) → slice_get after.cells number ≡ Some (rule class)

-- these texts are the first ones of those
abbrev pub Begins : List (List ℕ) → List (List ℕ) → Type 0
Begins texts all = (rest : List (List ℕ)) × (texts ++ rest ≡ all)

module _ {S : Type 0} (c : Seen S) where
  -- the same end, with `n` steps left
  abbrev pub leaving : {A : Type 0} → ℕ → Run S A → Run S A
  leaving n (done x s) = done x (c.left n s)
  leaving n (stopped why) = stopped why

  abbrev pub printed : {A : Type 0} → Run S A → List (List ℕ)
  printed (done x s) = c.prints s
  printed (stopped why) = why.prints

  -- F53, when a beginning of these was printed
  abbrev pub IsCutShort : {A : Type 0} → Run S A → List (List ℕ) → Type 0
  IsCutShort (done x s) prints = ⊥
  IsCutShort (stopped why) prints = (why.kind ≡ StepLimit) × Begins why.prints prints

  abbrev pub Leaves : {A : Type 0} → StoreView → Run S A → Type 0
  Leaves before (done x s) = Stays before (c.store s)
  Leaves before (stopped why) = Unit {0}

  -- From this state, with as many steps or more the action has its outcome, and what is left is what it doesn't take; with fewer it is
  -- F53, after a beginning of what it prints. What was printed stays, and so do the frozen modules and the rules.
  pub record Takes {A : Type 0} (action : Action S A) (s : S) : Type 0 where
    pub steps : ℕ
    pub outcome : Run S A
    pub enough : (more : ℕ) → action (c.left (steps + more) s) ≡ leaving more outcome
    pub short : (n : ℕ) → n < steps → IsCutShort (action (c.left n s)) (printed outcome)
    pub grows : Begins (c.prints s) (printed outcome)
    pub leaves : Leaves (c.store s) outcome

  -- the line of the statement that is running stays, and a fault names it
  abbrev pub InLine : {A : Type 0} → ℕ → Run S A → Type 0
  InLine line (done x s) = c.line s ≡ line
  InLine line (stopped why) = why.line ≡ line

  -- so does each action but the one that a statement begins with
  pub record TakesInLine {A : Type 0} (action : Action S A) (s : S) : Type 0 where
    pub takes : Takes action s
    pub line : InLine (c.line s) (action s)
