use Rattle.std.proofs.Common.{◌≡◌, drop}
use Rattle.bq_eval_spec.specs.Expressions.{pairs_each}
use Rattle.bq_eval_frame.specs.Slots.{slots_of}
use Rattle.bq_eval_rules.specs.Nests.{nested}
use Rattle.bq_eval_rules.proofs.evaluator.Evaluator.pairs_each.Given as goal

abbrev pub invariant-loop-pair : goal.invariant-loop-pair
invariant-loop-pair g l =
    let h = g.R.Runtime in
    let e = nested h.means l.self.depth l.self.context.now in
    pairs_each h.means e (drop l.pair-index l.pairs) (slots_of l.self.frame.now) l.content (h.seen l.runtime) ≡ pairs_each h.means e l.pairs (slots_of l.self.frame.now) l.fn.content (h.seen l.fn.runtime)
