use Rattle.std.proofs.Common.{◌≡◌, drop}
use Rattle.bq_eval_spec.specs.Calls.{fill_parameters}
use Rattle.bq_eval_spec.specs.Slots.{by_slots}
use Rattle.bq_eval_frame.specs.Slots.{slots_of}
use Rattle.bq_eval_rules.specs.Fillings.{filling_of}
use Rattle.bq_eval_rules.proofs.filling.fill_parameters.Given as goal

abbrev pub invariant-loop-parameter : goal.invariant-loop-parameter
invariant-loop-parameter g l =
    let h = g.R.Runtime in
    fill_parameters h.means by_slots (drop l.parameter-index l.parameters) (filling_of l.left (slots_of l.frame)) (h.seen l.runtime) ≡ fill_parameters h.means by_slots l.parameters (filling_of l.fn.filling (slots_of l.fn.frame)) (h.seen l.runtime)
