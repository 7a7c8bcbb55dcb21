use Rattle.std.proofs.Common.{◌≡◌, ℕ, arith, subst}
use Rattle.std.proofs.lemmas.Grind.{common_steps}
use Rattle.bq_builtin_machine.specs.Action.{done}
use Rattle.bq_eval_spec.specs.Targets.{bound}
use Rattle.bq_eval_frame.specs.Slots.{slots_of}
use Rattle.bq_eval_rules.specs.Round.{evals}
use Rattle.bq_eval_rules.proofs.Assigning.{name_augmented}
use Rattle.bq_eval_rules.proofs.reader.Reader.augment_name.Goals as goal

pub returns-in_err-new : goal.returns-in_err-new
returns-in_err-new g c =
    let h = g.R.Runtime in
    let P : ℕ → Type 0 = λ k. bound h.means (slots_of c.args.frame.now k) (h.seen c.args.runtime.now) ≡ done c.in_ok-old.old.now (h.seen c.args.runtime.now) in
    let is = subst P c.slot_of-slot.ensures c.in_ok-old.ensures in
    let known = name_augmented h.means (evals h.means c.args.self.now.context.now) c.args.name.now c.args.op.operator c.args.op.code.now (slots_of c.args.frame.now) c.in_ok-old.old.now (h.seen c.args.runtime.now) is in
    grind (arith, common_steps)

pub returns : goal.returns
returns g c =
    let h = g.R.Runtime in
    let P : ℕ → Type 0 = λ k. bound h.means (slots_of c.args.frame.now k) (h.seen c.args.runtime.now) ≡ done c.in_ok-old.old.now (h.seen c.args.runtime.now) in
    let is = subst P c.slot_of-slot.ensures c.in_ok-old.ensures in
    let known = name_augmented h.means (evals h.means c.args.self.now.context.now) c.args.name.now c.args.op.operator c.args.op.code.now (slots_of c.args.frame.now) c.in_ok-old.old.now (h.seen c.args.runtime.now) is in
    grind (arith, common_steps)
