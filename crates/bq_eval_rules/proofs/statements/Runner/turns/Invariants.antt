use Rattle.std.proofs.Common.{◌≡◌, length}
use Rattle.bq_eval_spec.specs.Statements.{turns, run_to}
use Rattle.bq_eval_spec.specs.Slots.{by_slots}
use Rattle.bq_eval_frame.specs.Slots.{slots_of}
use Rattle.bq_eval_rules.specs.Round.{evals}
use Rattle.bq_eval_rules.proofs.statements.Runner.turns.Given as goal

abbrev pub invariant-loop-out : goal.invariant-loop-out
invariant-loop-out g l =
    let h = g.R.Runtime in
    let e = evals h.means l.self.reader.context.now in
    let f = run_to l.self.depth h.means by_slots e in
    turns h.means by_slots e f l.each.target.now l.each.stmts.now l.elements (slots_of l.frame) (h.seen l.runtime) ≡ turns h.means by_slots e f l.each.target.now l.each.stmts.now l.fn.elements (slots_of l.fn.frame) (h.seen l.fn.runtime)

abbrev pub decreases-loop-out : goal.decreases-loop-out
decreases-loop-out g l = length l.elements
