use Rattle.std.proofs.Common.{arith}
use Rattle.std.proofs.lemmas.Grind.{common_steps}
use Rattle.bq_eval_rules.specs.Evaluators.{calls_in, evals_in, frame_of}
use Rattle.bq_eval_rules.proofs.Forms.{call_by, method_by, index_by, slice_by}
use Rattle.bq_eval_rules.proofs.evaluator.Evaluator.suffix.Goals as goal

pub returns-in-Call : goal.returns-in-Call
returns-in-Call g c =
    let h = g.R.Runtime in
    rw (call_by h.means (evals_in h.means c.args.self.now) (calls_in h.means c.args.self.now) c.args.suffix.now (frame_of c.args.self.now) c.args.value.now (h.seen c.args.runtime.now) _ c.in-Call.is) (grind (arith, common_steps))

pub returns-in-Method : goal.returns-in-Method
returns-in-Method g c =
    let h = g.R.Runtime in
    rw (method_by h.means (evals_in h.means c.args.self.now) (calls_in h.means c.args.self.now) c.args.suffix.now (frame_of c.args.self.now) c.args.value.now (h.seen c.args.runtime.now) _ _ c.in-Method.is) (grind (arith, common_steps))

pub returns-in-Index : goal.returns-in-Index
returns-in-Index g c =
    let h = g.R.Runtime in
    rw (index_by h.means (evals_in h.means c.args.self.now) (calls_in h.means c.args.self.now) c.args.suffix.now (frame_of c.args.self.now) c.args.value.now (h.seen c.args.runtime.now) _ c.in-Index.is) (grind (arith, common_steps))

pub returns-in-Slice : goal.returns-in-Slice
returns-in-Slice g c =
    let h = g.R.Runtime in
    rw (slice_by h.means (evals_in h.means c.args.self.now) (calls_in h.means c.args.self.now) c.args.suffix.now (frame_of c.args.self.now) c.args.value.now (h.seen c.args.runtime.now) _ _ _ c.in-Slice.is) (grind (arith, common_steps))
