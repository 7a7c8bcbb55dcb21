-- Unpacking (Starlark specification, "Assignments"): a number of targets take an iterable of exactly as many elements
-- (F57).
use Rattle.std.specs.Prelude.{ℕ, List, length, ◌==◌, cond, Result, Ok, Err}
use Rattle.bq_base.specs.declared.fault.EvalFault.{EvalFault}
use Rattle.bq_base.specs.declared.fault.EvalFault.TheVariants.{BadValue}
use Rattle.bq_value.specs.Datum.{Datum}
use Rattle.bq_builtin_machine.specs.State.{State}
use Rattle.bq_builtin_machine.specs.Action.{Action, look}
use Rattle.bq_builtin_machine.specs.Iteration.{elements_in}

-- exactly `count` elements
abbrev pub just : ℕ → Result (List Datum) EvalFault → Result (List Datum) EvalFault
just count (Ok xs) = cond (length xs == count) (Ok xs) (Err BadValue)
just count (Err _) = Err BadValue

-- as many elements as there are targets
unfoldable pub parts : ℕ → Datum → Action State (List Datum)
parts count v = look (λ s. just count (elements_in s.store v))
