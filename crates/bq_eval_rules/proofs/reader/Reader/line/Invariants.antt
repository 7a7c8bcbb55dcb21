use Rattle.std.proofs.Common.{◌≡◌, drop}
use Rattle.bq_eval_spec.specs.Statements.{line}
use Rattle.bq_eval_spec.specs.Slots.{by_slots}
use Rattle.bq_eval_frame.specs.Slots.{slots_of}
use Rattle.bq_eval_rules.specs.Round.{evals}
use Rattle.bq_eval_rules.proofs.reader.Reader.line.Given as goal

abbrev pub invariant-loop-stmt : goal.invariant-loop-stmt
invariant-loop-stmt g l =
    let h = g.R.Runtime in
    let e = evals h.means l.self.context.now in
    line h.means by_slots e (drop l.stmt-index l.stmts) (slots_of l.frame) (h.seen l.runtime) ≡ line h.means by_slots e l.stmts (slots_of l.fn.frame) (h.seen l.fn.runtime)
