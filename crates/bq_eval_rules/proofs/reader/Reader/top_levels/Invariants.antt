use Rattle.std.proofs.Common.{◌≡◌, drop}
use Rattle.bq_eval_spec.specs.Module.{top_levels}
use Rattle.bq_eval_spec.specs.Slots.{by_slots}
use Rattle.bq_eval_frame.specs.Slots.{slots_of}
use Rattle.bq_eval_rules.specs.Round.{evals, own_of}
use Rattle.bq_eval_rules.proofs.reader.Reader.top_levels.Given as goal

abbrev pub invariant-loop-stmt : goal.invariant-loop-stmt
invariant-loop-stmt g l =
    let h = g.R.Runtime in
    let e = evals h.means l.self.context.now in
    let o = own_of l.self.context.now.program.now in
    top_levels h.means by_slots o e (drop l.stmt-index l.stmts) (slots_of l.frame) (h.seen l.runtime) ≡ top_levels h.means by_slots o e l.stmts (slots_of l.fn.frame) (h.seen l.fn.runtime)
