use Rattle.std.proofs.Common.{◌≡◌, drop}
use Rattle.bq_eval_spec.specs.Expressions.{operations}
use Rattle.bq_eval_frame.specs.Slots.{slots_of}
use Rattle.bq_eval_rules.specs.Nests.{nested}
use Rattle.bq_eval_rules.proofs.evaluator.Evaluator.operations.Given as goal

abbrev pub invariant-loop-operation : goal.invariant-loop-operation
invariant-loop-operation g l =
    let h = g.R.Runtime in
    let e = nested h.means l.self.depth l.self.context.now in
    operations h.means e (drop l.operation-index l.operations) (slots_of l.self.frame.now) l.value (h.seen l.runtime) ≡ operations h.means e l.operations (slots_of l.self.frame.now) l.fn.first (h.seen l.fn.runtime)
