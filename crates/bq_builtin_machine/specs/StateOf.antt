-- What the fields of a machine stand for.
use Rattle.bq_builtin_machine.specs.State.{State}
use Rattle.bq_builtin_machine.specs.declared.machine.Machine.TheInside.{Inside}

-- the state that a machine holds; its prints, active functions and walks as lists
abbrev pub state_of : Inside → State
state_of m = record { store = m.store; steps = m.steps; prints = m.prints.items; active = m.active.items; walks = m.walks.items; line = m.line; message = m.message }
