-- the arguments that are left decide
use Rattle.std.proofs.Common.{◌≡◌, drop}
use Rattle.bq_eval_frame.specs.Slots.{slots_of}
use Rattle.bq_eval_rules.specs.Nests.{nested}
use Rattle.bq_eval_rules.specs.Taking.{all_taken, values_of}
use Rattle.bq_eval_rules.proofs.evaluator.Evaluator.take_all.Given as goal

abbrev pub invariant-loop-place : goal.invariant-loop-place
invariant-loop-place g l =
    let h = g.R.Runtime in
    let e = nested h.means l.self.depth l.self.context.now in
    let taken = all_taken h.means l.parameters e in
    taken (drop l.place l.arguments) (slots_of l.self.frame.now) l.place (values_of l.given) (h.seen l.runtime) ≡ taken l.arguments (slots_of l.self.frame.now) 0 (values_of l.fn.given) (h.seen l.fn.runtime)
