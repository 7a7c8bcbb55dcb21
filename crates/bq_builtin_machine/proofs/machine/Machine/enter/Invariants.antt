-- the function is among those that are left
use Rattle.std.proofs.Common.{◌≡◌, drop}
use Rattle.bq_builtin_machine.specs.Calls.{is_active}
use Rattle.bq_builtin_machine.proofs.machine.Machine.enter.Given as goal

abbrev pub invariant-loop-function : goal.invariant-loop-function
invariant-loop-function l = is_active l.«module» l.place (drop l.function-index l.function-items) ≡ is_active l.«module» l.place l.fn.self.active
