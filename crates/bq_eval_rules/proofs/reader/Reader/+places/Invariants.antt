use Rattle.std.proofs.Common.{◌≡◌, ◌+◌, ◌*◌, drop}
use Rattle.bq_eval_spec.specs.Targets.{places_each, places_to}
use Rattle.bq_eval_frame.specs.Slots.{slots_of}
use Rattle.bq_eval_rules.specs.Round.{evals}
use Rattle.bq_eval_rules.proofs.reader.Reader.+places.Given as goal

abbrev pub invariant-places_each-loop-target : goal.invariant-places_each-loop-target
invariant-places_each-loop-target g l =
    let h = g.R.Runtime in
    let e = evals h.means l.self.context.now in
    let f = places_to h.means e l.depth in
    places_each h.means e f (drop l.target-index l.targets) (slots_of l.frame) l.places.items (h.seen l.runtime) ≡ places_each h.means e f l.targets (slots_of l.frame) l.fn.places.items (h.seen l.fn.runtime)

abbrev pub decreases-places_to : goal.decreases-places_to
decreases-places_to g l = 3 * l.depth

abbrev pub decreases-places_of : goal.decreases-places_of
decreases-places_of g l = 3 * l.depth + 2

abbrev pub decreases-places_each : goal.decreases-places_each
decreases-places_each g l = 3 * l.depth + 1
