-- What is known of a run that is done.
use Rattle.std.proofs.Common.{◌≡◌, ap}
use Rattle.bq_builtin_machine.specs.State.{State}
use Rattle.bq_builtin_machine.specs.Action.{Run, done, stopped}

-- the state after it
abbrev pub after_or : {A : Type 0} → State → Run State A → State
after_or s (done a t) = t
after_or s (stopped why) = s

pub same_after : {A : Type 0} (a b : A) (s t : State) → done a s ≡ done b t → s ≡ t
same_after a b s t h = ap (after_or s) h
