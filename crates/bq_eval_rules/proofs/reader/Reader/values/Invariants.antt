use Rattle.std.proofs.Common.{◌≡◌, drop, []}
use Rattle.bq_eval_spec.specs.Expressions.{values}
use Rattle.bq_eval_frame.specs.Slots.{slots_of}
use Rattle.bq_eval_rules.specs.Round.{evals}
use Rattle.bq_eval_rules.proofs.reader.Reader.values.Given as goal

abbrev pub invariant-loop-code : goal.invariant-loop-code
invariant-loop-code g l =
    let h = g.R.Runtime in
    let e = evals h.means l.self.context.now in
    values h.means e (drop l.code-index l.codes) (slots_of l.frame) l.all.items (h.seen l.runtime) ≡ values h.means e l.codes (slots_of l.frame) [] (h.seen l.fn.runtime)
