use Rattle.std.proofs.Common.{◌≡◌, drop}
use Rattle.bq_eval_spec.specs.Expressions.{suffixes}
use Rattle.bq_eval_frame.specs.Slots.{slots_of}
use Rattle.bq_eval_rules.specs.Round.{inside}
use Rattle.bq_eval_rules.specs.Nests.{nested}
use Rattle.bq_eval_rules.proofs.evaluator.Evaluator.suffixes.Given as goal

abbrev pub invariant-loop-suffix : goal.invariant-loop-suffix
invariant-loop-suffix g l =
    let h = g.R.Runtime in
    let e = nested h.means l.self.depth l.self.context.now in
    let k = inside h.means l.self.context.now in
    suffixes h.means e k (drop l.suffix-index l.suffixes) (slots_of l.self.frame.now) l.value (h.seen l.runtime) ≡ suffixes h.means e k l.suffixes (slots_of l.self.frame.now) l.fn.first (h.seen l.fn.runtime)
