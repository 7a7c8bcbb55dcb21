use Rattle.std.proofs.Common.{rules, ◌≡◌, sym, subst, ℤ, w64, to_z, of_z}
use Rattle.bq_value.specs.Datum.{Datum, int}
use Rattle.bq_builtin_machine.specs.Action.{Run}
use Rattle.bq_eval_spec.specs.Expressions.{operation, operations}
use Rattle.bq_eval_frame.specs.Slots.{slots_of}
use Rattle.bq_eval_rules.specs.Acts.{Acts}
use Rattle.bq_eval_rules.specs.Answers.{answer_of}
use Rattle.bq_eval_rules.specs.Nests.{nested}
use Rattle.bq_eval_rules.proofs.Answering.{goes_on}
use Rattle.bq_eval_rules.proofs.Forms.{first_operation}
use Rattle.bq_eval_rules.proofs.evaluator.Evaluator.int_operations.Goals as goal

pub returns-in-None : goal.returns-in-None
returns-in-None g c =
    let h = g.R.Runtime in
    let e = nested h.means c.args.self.now.depth c.args.self.now.context.now in
    let env = slots_of c.args.self.now.frame.now in
    let s = h.seen c.loop-left.runtime in
    let answer = answer_of c.operations_there.result c.operations_there.new.out in
    let n : ℤ = to_z w64 c.loop-left.value-bits in
    let first = first_operation h.means e env (int n) s c.loop-left.left.now c.operation-item.result c.in-len1-up.len_at_least c.operation-item.is in
    let P : Run h.State Datum → Type 0 = λ run. Acts h.means (λ v. v) answer (h.seen c.operations_there.new.runtime) run in
    let z : to_z w64 (of_z w64 c.args.first) ≡ c.args.first = search rules in
    let X : ℤ → Type 0 = λ k. P (operations h.means e c.args.operations.now env (int k) (h.seen c.args.runtime.now)) in
    subst X z (subst P c.loop-left.invariant (subst P (sym first)
    (goes_on h.means (λ (v : Datum). v) c.int_operation.new.out _ answer (h.seen c.int_operation.new.runtime) (h.seen c.operations_there.new.runtime) (operation h.means e c.operation-item.result env (int n) s) c.in-None.ensures c.operations_there.ensures)))
