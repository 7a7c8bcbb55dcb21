use Rattle.std.proofs.Common.{arith}
use Rattle.std.proofs.lemmas.Grind.{common_steps}
use Rattle.bq_eval_frame.specs.Slots.{slots_of}
use Rattle.bq_eval_rules.specs.Round.{inside, round_of}
use Rattle.bq_eval_rules.proofs.Layers.{compare_layer}
use Rattle.bq_eval_rules.proofs.evaluator.Evaluator.holds.Goals as goal

pub returns-in-Compare : goal.returns-in-Compare
returns-in-Compare g c =
    let h = g.R.Runtime in
    let x = c.args.self.now.context.now in
    rw (compare_layer h.means (inside h.means x) (round_of x) c.args.self.now.depth c.args.condition.now _ _ _ (slots_of c.args.self.now.frame.now) (h.seen c.args.runtime.now) c.if-self-gt0.true c.in-Compare.is) (grind (arith, common_steps))
