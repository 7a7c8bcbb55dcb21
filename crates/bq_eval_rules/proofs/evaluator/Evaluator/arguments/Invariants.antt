use Rattle.std.proofs.Common.{◌≡◌, drop}
use Rattle.bq_eval_spec.specs.Expressions.{arguments}
use Rattle.bq_eval_frame.specs.Slots.{slots_of}
use Rattle.bq_eval_rules.specs.Nests.{nested}
use Rattle.bq_eval_rules.proofs.evaluator.Evaluator.arguments.Given as goal

abbrev pub invariant-loop-argument : goal.invariant-loop-argument
invariant-loop-argument g l =
    let h = g.R.Runtime in
    let e = nested h.means l.self.depth l.self.context.now in
    arguments h.means e (drop l.argument-index l.arguments) (slots_of l.self.frame.now) l.args (h.seen l.runtime) ≡ arguments h.means e l.arguments (slots_of l.self.frame.now) l.fn.args (h.seen l.fn.runtime)
