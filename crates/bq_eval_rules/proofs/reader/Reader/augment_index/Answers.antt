use Rattle.std.proofs.Common.{sym, subst}
use Rattle.bq_builtin_machine.specs.Action.{Run}
use Rattle.bq_eval_spec.specs.Frame.{Frame}
use Rattle.bq_eval_frame.specs.Slots.{slots_of}
use Rattle.bq_eval_rules.specs.Acts.{Acts}
use Rattle.bq_eval_rules.specs.Round.{evals}
use Rattle.bq_eval_rules.proofs.Assigning.{index_augmented}
use Rattle.bq_eval_rules.proofs.Following.{then_gives}
use Rattle.bq_eval_rules.proofs.reader.Reader.augment_index.Goals as goal

pub returns : goal.returns
returns g c =
    let h = g.R.Runtime in
    let x = c.args.self.now.context.now in
    let env = slots_of c.args.frame.now in
    let known = index_augmented h.means (evals h.means x) c.args.operand.now c.args.index.now c.args.op.operator c.args.op.code.now env c.in_ok-operand.operand c.in_ok-index.index (h.seen c.args.runtime.now) (h.seen c.value.new.runtime) (h.seen c.value-2.new.runtime) c.in_ok-operand.ensures c.in_ok-index.ensures in
    let P : Run h.State Frame → Type 0 = λ run. Acts h.means (λ _. env) c.augment_at.result (h.seen c.augment_at.new.runtime) run in
    subst P (sym known) (then_gives h.means env c.augment_at.result (h.seen c.augment_at.new.runtime) _ c.augment_at.ensures)
