use Rattle.std.proofs.Common.{◌≡◌, drop}
use Rattle.bq_eval_spec.specs.Expressions.{conditional}
use Rattle.bq_eval_frame.specs.Slots.{slots_of}
use Rattle.bq_eval_rules.specs.Nests.{nested}
use Rattle.bq_eval_rules.proofs.evaluator.Evaluator.conditional.Given as goal

abbrev pub invariant-loop-choice : goal.invariant-loop-choice
invariant-loop-choice g l =
    let h = g.R.Runtime in
    let e = nested h.means l.self.depth l.self.context.now in
    conditional h.means e (drop l.choice-index l.choices) l.otherwise (slots_of l.self.frame.now) (h.seen l.runtime) ≡ conditional h.means e l.choices l.otherwise (slots_of l.self.frame.now) (h.seen l.fn.runtime)
