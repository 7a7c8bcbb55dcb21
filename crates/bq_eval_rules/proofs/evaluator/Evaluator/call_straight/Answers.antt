use Rattle.std.proofs.Common.{rules, arith}
use Rattle.std.proofs.lemmas.Grind.{common_steps}
use Rattle.bq_eval_rules.specs.Evaluators.{evals_in, frame_of}
use Rattle.bq_eval_rules.proofs.Taken.{goes_straight}
use Rattle.bq_eval_rules.proofs.evaluator.Evaluator.call_straight.Goals as goal

pub returns-in-Err : goal.returns-in-Err
returns-in-Err g c =
    let m = g.R.Runtime.means in
    rw (goes_straight m g.met.R.Runtime.passes_few c.args.self.now.context.now (evals_in m c.args.self.now) c.args.arguments.now (frame_of c.args.self.now) c.args.value.now c.args.callee (g.R.Runtime.seen c.args.runtime.now) c.requires.called c.requires.straight) (first_of (search rules, grind (arith, common_steps)))

pub returns-in-Ok : goal.returns-in-Ok
returns-in-Ok g c =
    let m = g.R.Runtime.means in
    rw (goes_straight m g.met.R.Runtime.passes_few c.args.self.now.context.now (evals_in m c.args.self.now) c.args.arguments.now (frame_of c.args.self.now) c.args.value.now c.args.callee (g.R.Runtime.seen c.args.runtime.now) c.requires.called c.requires.straight) (first_of (search rules, grind (arith, common_steps)))
