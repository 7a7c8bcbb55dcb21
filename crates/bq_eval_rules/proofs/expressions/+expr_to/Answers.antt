use Rattle.std.proofs.Common.{arith}
use Rattle.bq_eval_spec.specs.Expressions.{expr_to}
use Rattle.bq_eval_spec.specs.Slots.{by_slots}
use Rattle.bq_eval_frame.specs.Slots.{slots_of}
use Rattle.bq_eval_rules.specs.Round.{inside, round_of}
use Rattle.bq_eval_rules.proofs.Depth.{deeper}
use Rattle.bq_eval_rules.proofs.expressions.+expr_to.Goals as goal

pub returns : goal.returns
unfolding expr_to
returns g t c =
    let h = g.R.Runtime in
    rw (deeper (λ n. expr_to n h.means by_slots (inside h.means c.args.context.now) (round_of c.args.context.now) c.args.code.now (slots_of c.args.frame.now) (h.seen c.args.runtime.now)) c.args.depth (omega arith)) c.expr.ensures
