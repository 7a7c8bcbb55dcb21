use Rattle.std.proofs.Common.{arith}
use Rattle.bq_eval_spec.specs.Targets.{places_each, places_to}
use Rattle.bq_eval_frame.specs.Slots.{slots_of}
use Rattle.bq_eval_rules.specs.Round.{evals}
use Rattle.bq_eval_rules.proofs.Assigning.{no_places, index_places, tuple_places, list_places}
use Rattle.bq_eval_rules.proofs.Depth.{deeper}
use Rattle.std.proofs.lemmas.Grind.{common_steps}
use Rattle.bq_eval_rules.proofs.reader.Reader.+places.Goals as goal

pub places_to-returns : goal.places_to-returns
unfolding places_to
places_to-returns g t c =
    let h = g.R.Runtime in
    rw (deeper (λ n. places_to h.means (evals h.means c.args.self.now.context.now) n c.args.target.now (slots_of c.args.frame.now) c.args.places.now.items (h.seen c.args.runtime.now)) c.args.depth (omega arith)) c.places_of.ensures

pub places_each-loop-target-init : goal.places_each-loop-target-init
unfolding places_each
places_each-loop-target-init g t c = grind (arith, common_steps)

pub places_each-loop-target-preserved : goal.places_each-loop-target-preserved
unfolding places_each
places_each-loop-target-preserved g t c = grind (arith, common_steps)

pub places_each-returns : goal.places_each-returns
unfolding places_each
places_each-returns g t c = grind (arith, common_steps)

pub places_of-returns-in-Name : goal.places_of-returns-in-Name
places_of-returns-in-Name g t c =
    let h = g.R.Runtime in
    let e = evals h.means c.args.self.now.context.now in
    rw (no_places h.means e (places_to h.means e c.args.depth) c.args.target.now (slots_of c.args.frame.now) c.args.places.now.items (h.seen c.args.runtime.now) _ c.in-Name.is) (grind (arith, common_steps))

pub places_of-returns-in-Index : goal.places_of-returns-in-Index
places_of-returns-in-Index g t c =
    let h = g.R.Runtime in
    let e = evals h.means c.args.self.now.context.now in
    rw (index_places h.means e (places_to h.means e c.args.depth) c.args.target.now (slots_of c.args.frame.now) c.args.places.now.items (h.seen c.args.runtime.now) _ _ c.in-Index.is) (grind (arith, common_steps))

pub places_of-returns-in-Tuple : goal.places_of-returns-in-Tuple
places_of-returns-in-Tuple g t c =
    let h = g.R.Runtime in
    let e = evals h.means c.args.self.now.context.now in
    rw (tuple_places h.means e (places_to h.means e c.args.depth) c.args.target.now (slots_of c.args.frame.now) c.args.places.now.items (h.seen c.args.runtime.now) _ c.in-Tuple.is) (grind (arith, common_steps))

pub places_of-returns-in-List : goal.places_of-returns-in-List
places_of-returns-in-List g t c =
    let h = g.R.Runtime in
    let e = evals h.means c.args.self.now.context.now in
    rw (list_places h.means e (places_to h.means e c.args.depth) c.args.target.now (slots_of c.args.frame.now) c.args.places.now.items (h.seen c.args.runtime.now) _ c.in-List.is) (grind (arith, common_steps))

pub places_each-returns-in_err-places_to : goal.places_each-returns-in_err-places_to
unfolding places_each
places_each-returns-in_err-places_to g t c = grind (arith, common_steps)
