use Rattle.std.proofs.Common.{◌≡◌, ◌+◌, ◌*◌, drop}
use Rattle.bq_eval_spec.specs.Targets.{bind_each, bind_to}
use Rattle.bq_eval_spec.specs.Slots.{by_slots}
use Rattle.bq_eval_frame.specs.Slots.{slots_of}
use Rattle.bq_eval_rules.proofs.targets.+targets.Given as goal

abbrev pub invariant-bind_each-loop-target : goal.invariant-bind_each-loop-target
invariant-bind_each-loop-target g l =
    let h = g.R.Runtime in
    let f = bind_to h.means by_slots l.depth in
    bind_each h.means f (drop l.target-index l.targets) l.elements (slots_of l.frame) l.places (h.seen l.runtime) ≡ bind_each h.means f l.targets l.fn.elements (slots_of l.fn.frame) l.fn.places (h.seen l.fn.runtime)

abbrev pub decreases-bind_to : goal.decreases-bind_to
decreases-bind_to g l = 4 * l.depth

abbrev pub decreases-bind_target : goal.decreases-bind_target
decreases-bind_target g l = 4 * l.depth + 3

abbrev pub decreases-unpack : goal.decreases-unpack
decreases-unpack g l = 4 * l.depth + 2

abbrev pub decreases-bind_each : goal.decreases-bind_each
decreases-bind_each g l = 4 * l.depth + 1
