use Rattle.std.proofs.Common.{arith}
use Rattle.std.proofs.lemmas.Grind.{common_steps}
use Rattle.bq_eval_rules.specs.Evaluators.{evals_in, frame_of}
use Rattle.bq_eval_rules.specs.Taking.{values_of}
use Rattle.bq_eval_rules.proofs.Taken.{taken_named, taken_positional, taken_star, taken_star_star}
use Rattle.bq_eval_rules.proofs.evaluator.Evaluator.take.Goals as goal

pub returns-in_err-value-in-Positional : goal.returns-in_err-value-in-Positional
returns-in_err-value-in-Positional g c =
    let m = g.R.Runtime.means in
    rw (taken_positional m c.args.parameters.now (evals_in m c.args.self.now) c.args.argument.now (frame_of c.args.self.now) c.args.place (values_of c.args.given.now) (g.R.Runtime.seen c.args.runtime.now) _ c.in-Positional.is) (grind (arith, common_steps))

pub returns-in_err-value-in-Named : goal.returns-in_err-value-in-Named
returns-in_err-value-in-Named g c =
    let m = g.R.Runtime.means in
    rw (taken_named m c.args.parameters.now (evals_in m c.args.self.now) c.args.argument.now (frame_of c.args.self.now) c.args.place (values_of c.args.given.now) (g.R.Runtime.seen c.args.runtime.now) _ _ c.in-Named.is) (grind (arith, common_steps))

pub returns-in_ok-value-in-Positional : goal.returns-in_ok-value-in-Positional
returns-in_ok-value-in-Positional g c =
    let m = g.R.Runtime.means in
    rw (taken_positional m c.args.parameters.now (evals_in m c.args.self.now) c.args.argument.now (frame_of c.args.self.now) c.args.place (values_of c.args.given.now) (g.R.Runtime.seen c.args.runtime.now) _ c.in-Positional.is) (grind (arith, common_steps))

pub returns-in_ok-value-in-Named : goal.returns-in_ok-value-in-Named
returns-in_ok-value-in-Named g c =
    let m = g.R.Runtime.means in
    rw (taken_named m c.args.parameters.now (evals_in m c.args.self.now) c.args.argument.now (frame_of c.args.self.now) c.args.place (values_of c.args.given.now) (g.R.Runtime.seen c.args.runtime.now) _ _ c.in-Named.is) (grind (arith, common_steps))

pub returns-in-Star : goal.returns-in-Star
returns-in-Star g c =
    let m = g.R.Runtime.means in
    rw (taken_star m c.args.parameters.now (evals_in m c.args.self.now) c.args.argument.now (frame_of c.args.self.now) c.args.place (values_of c.args.given.now) (g.R.Runtime.seen c.args.runtime.now) _ c.in-Star.is) (grind (arith, common_steps))

pub returns-in-StarStar : goal.returns-in-StarStar
returns-in-StarStar g c =
    let m = g.R.Runtime.means in
    rw (taken_star_star m c.args.parameters.now (evals_in m c.args.self.now) c.args.argument.now (frame_of c.args.self.now) c.args.place (values_of c.args.given.now) (g.R.Runtime.seen c.args.runtime.now) _ c.in-StarStar.is) (grind (arith, common_steps))
