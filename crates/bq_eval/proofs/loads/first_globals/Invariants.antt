-- the loads that are left, with the values that are left, decide
use Rattle.std.proofs.Common.{◌≡◌, drop}
use Rattle.bq_eval_frame.specs.Slots.{slots_of}
use Rattle.bq_eval_spec.specs.Slots.{first_globals}
use Rattle.bq_eval.proofs.loads.first_globals.Given as goal

abbrev pub invariant-loop-load : goal.invariant-loop-load
invariant-loop-load l = first_globals (drop l.load-index l.loads) l.left (slots_of l.globals) ≡ first_globals l.loads l.fn.values (slots_of l.fn.globals)
