use Rattle.std.proofs.Common.{arith}
use Rattle.std.proofs.lemmas.Grind.{common_steps}
use Rattle.bq_eval_rules.specs.Evaluators.{evals_in, frame_of}
use Rattle.bq_eval_rules.proofs.Forms.{positional_by, named_by, star_by, star_star_by}
use Rattle.bq_eval_rules.proofs.evaluator.Evaluator.argument.Goals as goal

pub returns-in_err-value-in-Positional : goal.returns-in_err-value-in-Positional
returns-in_err-value-in-Positional g c =
    let h = g.R.Runtime in
    rw (positional_by h.means (evals_in h.means c.args.self.now) c.args.argument.now (frame_of c.args.self.now) c.args.args.now (h.seen c.args.runtime.now) _ c.in-Positional.is) (grind (arith, common_steps))

pub returns-in_err-value-in-Named : goal.returns-in_err-value-in-Named
returns-in_err-value-in-Named g c =
    let h = g.R.Runtime in
    rw (named_by h.means (evals_in h.means c.args.self.now) c.args.argument.now (frame_of c.args.self.now) c.args.args.now (h.seen c.args.runtime.now) _ _ c.in-Named.is) (grind (arith, common_steps))

pub returns-in_err-value-in-Star : goal.returns-in_err-value-in-Star
returns-in_err-value-in-Star g c =
    let h = g.R.Runtime in
    rw (star_by h.means (evals_in h.means c.args.self.now) c.args.argument.now (frame_of c.args.self.now) c.args.args.now (h.seen c.args.runtime.now) _ c.in-Star.is) (grind (arith, common_steps))

pub returns-in_err-value-in-StarStar : goal.returns-in_err-value-in-StarStar
returns-in_err-value-in-StarStar g c =
    let h = g.R.Runtime in
    rw (star_star_by h.means (evals_in h.means c.args.self.now) c.args.argument.now (frame_of c.args.self.now) c.args.args.now (h.seen c.args.runtime.now) _ c.in-StarStar.is) (grind (arith, common_steps))

pub returns-in_ok-value-in-Positional : goal.returns-in_ok-value-in-Positional
returns-in_ok-value-in-Positional g c =
    let h = g.R.Runtime in
    rw (positional_by h.means (evals_in h.means c.args.self.now) c.args.argument.now (frame_of c.args.self.now) c.args.args.now (h.seen c.args.runtime.now) _ c.in-Positional.is) (grind (arith, common_steps))

pub returns-in_ok-value-in-Named : goal.returns-in_ok-value-in-Named
returns-in_ok-value-in-Named g c =
    let h = g.R.Runtime in
    rw (named_by h.means (evals_in h.means c.args.self.now) c.args.argument.now (frame_of c.args.self.now) c.args.args.now (h.seen c.args.runtime.now) _ _ c.in-Named.is) (grind (arith, common_steps))

pub returns-in_ok-value-in-Star : goal.returns-in_ok-value-in-Star
returns-in_ok-value-in-Star g c =
    let h = g.R.Runtime in
    rw (star_by h.means (evals_in h.means c.args.self.now) c.args.argument.now (frame_of c.args.self.now) c.args.args.now (h.seen c.args.runtime.now) _ c.in-Star.is) (grind (arith, common_steps))

pub returns-in_ok-value-in-StarStar : goal.returns-in_ok-value-in-StarStar
returns-in_ok-value-in-StarStar g c =
    let h = g.R.Runtime in
    rw (star_star_by h.means (evals_in h.means c.args.self.now) c.args.argument.now (frame_of c.args.self.now) c.args.args.now (h.seen c.args.runtime.now) _ c.in-StarStar.is) (grind (arith, common_steps))
