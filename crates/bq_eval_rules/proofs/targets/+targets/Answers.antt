use Rattle.std.proofs.Common.{arith}
use Rattle.bq_eval_spec.specs.Targets.{bind_each, bind_to}
use Rattle.bq_eval_spec.specs.Slots.{by_slots}
use Rattle.bq_eval_frame.specs.Slots.{slots_of}
use Rattle.bq_eval_rules.proofs.Assigning.{variable_bound, index_bound, tuple_bound, list_bound}
use Rattle.bq_eval_rules.proofs.Depth.{deeper}
use Rattle.std.proofs.lemmas.Grind.{common_steps}
use Rattle.bq_eval_rules.proofs.targets.+targets.Goals as goal

pub bind_to-returns : goal.bind_to-returns
unfolding bind_to
bind_to-returns g t c =
    let h = g.R.Runtime in
    rw (deeper (λ n. bind_to h.means by_slots n c.args.target.now c.args.value (slots_of c.args.frame.now) c.args.places.now (h.seen c.args.runtime.now)) c.args.depth (omega arith)) c.bind_target.ensures

pub bind_each-loop-target-init : goal.bind_each-loop-target-init
unfolding bind_each
bind_each-loop-target-init g t c = grind (arith, common_steps)

pub bind_each-loop-target-preserved : goal.bind_each-loop-target-preserved
unfolding bind_each
bind_each-loop-target-preserved g t c = grind (arith, common_steps)

pub bind_each-returns : goal.bind_each-returns
unfolding bind_each
bind_each-returns g t c = grind (arith, common_steps)

pub bind_each-returns-in-None : goal.bind_each-returns-in-None
unfolding bind_each
bind_each-returns-in-None g t c = grind (arith, common_steps)

pub bind_target-returns-in_ok-fill-in-Name : goal.bind_target-returns-in_ok-fill-in-Name
bind_target-returns-in_ok-fill-in-Name g t c =
    let h = g.R.Runtime in
    let known = variable_bound h.means c.args.target.now c.in-Name.name c.args.value (slots_of c.args.frame.now) (h.seen c.args.runtime.now) c.in-Name.is (bind_to h.means by_slots c.args.depth) c.args.places.now in
    grind (arith, common_steps)

pub bind_target-returns-in-Index : goal.bind_target-returns-in-Index
bind_target-returns-in-Index g t c =
    let h = g.R.Runtime in
    rw (index_bound h.means (bind_to h.means by_slots c.args.depth) c.args.target.now c.args.value (slots_of c.args.frame.now) c.args.places.now (h.seen c.args.runtime.now) _ _ c.in-Index.is) (c.bind_place.ensures)

pub bind_target-returns-in-Tuple : goal.bind_target-returns-in-Tuple
bind_target-returns-in-Tuple g t c =
    let h = g.R.Runtime in
    rw (tuple_bound h.means (bind_to h.means by_slots c.args.depth) c.args.target.now c.args.value (slots_of c.args.frame.now) c.args.places.now (h.seen c.args.runtime.now) _ c.in-Tuple.is) (grind (arith, common_steps))

pub bind_target-returns-in-List : goal.bind_target-returns-in-List
bind_target-returns-in-List g t c =
    let h = g.R.Runtime in
    rw (list_bound h.means (bind_to h.means by_slots c.args.depth) c.args.target.now c.args.value (slots_of c.args.frame.now) c.args.places.now (h.seen c.args.runtime.now) _ c.in-List.is) (grind (arith, common_steps))
