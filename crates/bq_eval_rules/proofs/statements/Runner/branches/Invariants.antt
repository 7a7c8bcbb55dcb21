use Rattle.std.proofs.Common.{◌≡◌, drop}
use Rattle.bq_eval_spec.specs.Statements.{branches, run_to}
use Rattle.bq_eval_spec.specs.Slots.{by_slots}
use Rattle.bq_eval_frame.specs.Slots.{slots_of}
use Rattle.bq_eval_rules.specs.Round.{evals}
use Rattle.bq_eval_rules.proofs.statements.Runner.branches.Given as goal

abbrev pub invariant-loop-branch : goal.invariant-loop-branch
invariant-loop-branch g l =
    let h = g.R.Runtime in
    let e = evals h.means l.self.reader.context.now in
    let f = run_to l.self.depth h.means by_slots e in
    branches h.means by_slots e f (drop l.branch-index l.branches) l.otherwise (slots_of l.frame) (h.seen l.runtime) ≡ branches h.means by_slots e f l.branches l.otherwise (slots_of l.fn.frame) (h.seen l.fn.runtime)
