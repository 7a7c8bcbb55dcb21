use Rattle.std.proofs.Common.{rules, ◌≡◌, Some, ℕ, sym, subst, ℤ, w64, to_z, of_z}
use Rattle.bq_value.specs.Datum.{Datum, int}
use Rattle.bq_builtin_machine.specs.Action.{Action, Run, following, pure}
use Rattle.bq_eval_spec.specs.Frame.{Frame, fill}
use Rattle.bq_eval_spec.specs.Slots.{slot_of}
use Rattle.bq_eval_spec.specs.Statements.{Flow, next}
use Rattle.bq_eval_frame.specs.Slots.{slots_of}
use Rattle.bq_eval_rules.specs.Acts.{Acts, ActsOn}
use Rattle.bq_eval_rules.specs.Answers.{answer_of}
use Rattle.bq_eval_rules.specs.Flows.{flow_of}
use Rattle.bq_eval_rules.specs.Readers.{augmented}
use Rattle.bq_eval_rules.specs.Round.{evals}
use Rattle.bq_eval_rules.proofs.Answering.{goes_on_twice}
use Rattle.bq_eval_rules.proofs.Assigning.{filled_augmented}
use Rattle.bq_eval_rules.proofs.reader.Reader.augment.Goals as goal

pub returns-in-Some : goal.returns-in-Some
returns-in-Some g c =
    let h = g.R.Runtime in
    let e = evals h.means c.args.self.now.context.now in
    let env = slots_of c.args.frame.now in
    let s = h.seen c.args.runtime.now in
    let t = h.seen c.int_augmented-new.new.runtime in
    let run : ℤ → Run h.State Datum = λ n. augmented h.means c.args.self.now c.args.op.operator c.args.op.code.now env (int n) s in
    let given = answer_of c.int_augmented-new.result c.int_augmented-new.new.out in
    let flow = flow_of c.fill_answer.result c.fill_answer.new.out in
    let view : Flow → Flow × Frame = λ f. (f, slots_of c.fill_answer.new.frame) in
    let put : ℕ → Datum → Action h.State Frame = λ k v. pure (fill env k v) in
    let on : Frame → Action h.State (Flow × Frame) = λ made. pure (next, made) in
    let z : to_z w64 (of_z w64 c.in-Some.old) ≡ c.in-Some.old = search rules in
    let K : ℕ → Type 0 = λ k. env k ≡ Some (int c.in-Some.old) in
    let known = filled_augmented h.means e c.args.target.now c.in-Name.name c.args.op.operator c.args.op.code.now env (int c.in-Some.old) s c.in-Name.is (subst K c.slot_of-slot.ensures c.in-Some.ensures) in
    let X : ℤ → Type 0 = λ n. Acts h.means (λ (v : Datum). v) given t (run n) in
    let Y : ℕ → Type 0 = λ k. ActsOn h.means view given (λ v. following (put k v t) on) t flow t in
    let P : Run h.State Frame → Type 0 = λ run. Acts h.means view flow t (following run on) in
    subst P (sym known) (goes_on_twice h.means view given (put (slot_of c.in-Name.name.referent)) on flow t t (run c.in-Some.old) (subst X z c.int_augmented-new.ensures) (subst Y c.slot_of-slot.ensures c.fill_answer.ensures))
