use Rattle.std.proofs.Common.{arith}
use Rattle.std.proofs.lemmas.Grind.{common_steps}
use Rattle.bq_eval_rules.specs.Evaluators.{calls_in, evals_in, frame_of, round_in}
use Rattle.bq_eval_rules.proofs.Forms.{member_by}
use Rattle.bq_eval_rules.proofs.evaluator.Evaluator.primary.Goals as goal

pub returns-in-Method : goal.returns-in-Method
returns-in-Method g c =
    let h = g.R.Runtime in
    let x = c.args.self.now in
    rw (member_by h.means (evals_in h.means x) (calls_in h.means x) (round_in x) c.args.code.now (frame_of x) (h.seen c.args.runtime.now) _ _ c.args.suffixes.now c.first-item.result _ _ c.in-Name.is c.in-Member.is c.in-len1-up.len_at_least c.first-item.is c.in-Method.is) (grind (arith, common_steps))
