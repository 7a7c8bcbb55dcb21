-- the values so far, and those of the globals that are left, are those of all
use Rattle.std.proofs.Common.{◌≡◌, ◌++◌, drop}
use Rattle.bq_eval_frame.specs.Slots.{slots_of}
use Rattle.bq_eval.specs.Module.{values_from}
use Rattle.bq_eval.proofs.ending.push_globals.Given as goal

abbrev pub invariant-loop-slot : goal.invariant-loop-slot
invariant-loop-slot l = l.values.items ++ values_from l.slot (drop l.slot l.names) (slots_of l.globals) ≡ l.fn.values.items ++ values_from 0 l.names (slots_of l.globals)
