use Rattle.std.proofs.Common.{arith}
use Rattle.bq_eval_spec.specs.Statements.{run_to}
use Rattle.bq_eval_spec.specs.Slots.{by_slots}
use Rattle.bq_eval_frame.specs.Slots.{slots_of}
use Rattle.bq_eval_rules.specs.Round.{evals}
use Rattle.bq_eval_rules.proofs.Depth.{deeper}
use Rattle.bq_eval_rules.proofs.statements.+run_to.Goals as goal

pub returns : goal.returns
unfolding run_to
returns g t c =
    let h = g.R.Runtime in
    rw (deeper (λ n. run_to n h.means by_slots (evals h.means c.args.context.now) c.args.stmt.now (slots_of c.args.frame.now) (h.seen c.args.runtime.now)) c.args.depth (omega arith)) c.stmt.ensures
