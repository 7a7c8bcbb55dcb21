use Rattle.std.proofs.Common.{◌≡◌, length}
use Rattle.bq_value.specs.Datum.{int}
use Rattle.bq_eval_spec.specs.Expressions.{operations}
use Rattle.bq_eval_frame.specs.Slots.{slots_of}
use Rattle.bq_eval_rules.specs.Nests.{nested}
use Rattle.bq_eval_rules.proofs.evaluator.Evaluator.int_operations.Given as goal

abbrev pub invariant-loop-left : goal.invariant-loop-left
invariant-loop-left g l =
    let h = g.R.Runtime in
    let e = nested h.means l.self.depth l.self.context.now in
    operations h.means e l.left (slots_of l.self.frame.now) (int l.value) (h.seen l.runtime) ≡ operations h.means e l.operations (slots_of l.self.frame.now) (int l.first) (h.seen l.fn.runtime)

abbrev pub decreases-loop-left : goal.decreases-loop-left
decreases-loop-left g l = length l.left
