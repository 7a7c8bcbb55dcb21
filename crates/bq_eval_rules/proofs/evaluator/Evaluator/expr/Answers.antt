use Rattle.std.proofs.Common.{arith}
use Rattle.std.proofs.lemmas.Grind.{common_steps}
use Rattle.bq_eval_rules.specs.Evaluators.{calls_in, evals_in, frame_of, round_in}
use Rattle.bq_eval_rules.proofs.Forms.{binary_by, conditional_by, primary_by}
use Rattle.bq_eval_rules.proofs.evaluator.Evaluator.expr.Goals as goal

pub returns-in-Binary : goal.returns-in-Binary
returns-in-Binary g c =
    let h = g.R.Runtime in
    let x = c.args.self.now in
    rw (binary_by h.means (evals_in h.means x) (calls_in h.means x) (round_in x) c.args.code.now (frame_of x) (h.seen c.args.runtime.now) _ _ c.in-Binary.is) (grind (arith, common_steps))

pub returns-in-Primary : goal.returns-in-Primary
returns-in-Primary g c =
    let h = g.R.Runtime in
    let x = c.args.self.now in
    rw (primary_by h.means (evals_in h.means x) (calls_in h.means x) (round_in x) c.args.code.now (frame_of x) (h.seen c.args.runtime.now) _ _ c.in-Primary.is) (grind (arith, common_steps))

pub returns-in-Conditional : goal.returns-in-Conditional
returns-in-Conditional g c =
    let h = g.R.Runtime in
    let x = c.args.self.now in
    rw (conditional_by h.means (evals_in h.means x) (calls_in h.means x) (round_in x) c.args.code.now (frame_of x) (h.seen c.args.runtime.now) _ _ c.in-Conditional.is) (grind (arith, common_steps))
