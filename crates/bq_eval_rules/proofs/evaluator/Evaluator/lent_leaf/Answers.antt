use Rattle.std.proofs.Common.{◌≡◌, Some, arith}
use Rattle.std.specs.Borrow.{Bor}
use Rattle.bq_value.specs.Datum.{Datum}
use Rattle.bq_eval_spec.specs.Expressions.{literal}
use Rattle.bq_eval_frame.specs.Slots.{slots_of}
use Rattle.bq_eval_rules.specs.Evaluators.{value_inside}
use Rattle.bq_eval_rules.specs.Round.{inside, round_of}
use Rattle.bq_eval_rules.proofs.Answering.{then_some}
use Rattle.bq_eval_rules.proofs.Layers.{local_leaf}
use Rattle.bq_eval_rules.proofs.evaluator.Evaluator.lent_leaf.Goals as goal

pub returns-in-Local : goal.returns-in-Local
returns-in-Local g c =
    let h = g.R.Runtime in
    let x = c.args.self.now.context.now in
    let s = h.seen c.args.runtime.now in
    then_some (λ (v : Bor Datum). slots_of c.args.self.now.frame.now c.in-Local.slot ≡ Some v.now) (λ (v : Bor Datum). value_inside h.means c.args.self.now c.args.code.now s ≡ literal h.means v.now s) c.lent_in.result c.lent_in.ensures
    (λ v full. local_leaf h.means (inside h.means x) (round_of x) c.args.self.now.depth c.args.code.now c.in-Name.name c.in-Local.slot v.now (slots_of c.args.self.now.frame.now) s (omega (arith, c.if-self-eq0.false)) c.in-Name.is c.in-Local.is full)
