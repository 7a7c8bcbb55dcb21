use Rattle.std.proofs.Common.{rules, ◌≡◌, sym, subst, ℤ, w64, to_z, of_z}
use Rattle.bq_value.specs.Datum.{Datum, int}
use Rattle.bq_builtin_machine.specs.Action.{Run, following}
use Rattle.bq_eval_rules.specs.Acts.{Acts, ActsOn}
use Rattle.bq_eval_rules.specs.Answers.{answer_of}
use Rattle.bq_eval_rules.specs.Evaluators.{value_inside}
use Rattle.bq_eval_rules.proofs.Answering.{goes_on}
use Rattle.bq_eval_rules.proofs.evaluator.Evaluator.int_apply.Goals as goal

pub returns-in-Some : goal.returns-in-Some
returns-in-Some g c =
    let h = g.R.Runtime in
    let answer = answer_of c.apply_ints.result c.apply_ints.new.out in
    let s = h.seen c.evaluate.new.runtime in
    let t = h.seen c.apply_ints.new.runtime in
    let zx : to_z w64 (of_z w64 c.args.x) ≡ c.args.x = search rules in
    let zy : to_z w64 (of_z w64 c.in-Some.y) ≡ c.in-Some.y = search rules in
    let X : ℤ → Type 0 = λ n. Acts h.means (λ v. v) answer t (h.means.binary c.args.operator (int n) (int (to_z w64 (of_z w64 c.in-Some.y))) s) in
    let Y : ℤ → Type 0 = λ n. Acts h.means (λ v. v) answer t (h.means.binary c.args.operator (int c.args.x) (int n) s) in
    let P : Run h.State Datum → Type 0 = λ run. Acts h.means (λ v. v) answer t (following run (h.means.binary c.args.operator (int c.args.x))) in
    subst P (sym c.in-Some.ensures) (subst Y zy (subst X zx c.apply_ints.ensures))

pub returns-in-None : goal.returns-in-None
returns-in-None g c =
    let h = g.R.Runtime in
    let answer = answer_of c.apply_there.result c.apply_there.new.out in
    let s = h.seen c.evaluate.new.runtime in
    let t = h.seen c.apply_there.new.runtime in
    let zx : to_z w64 (of_z w64 c.args.x) ≡ c.args.x = search rules in
    let X : ℤ → Type 0 = λ n. ActsOn h.means (λ (v : Datum). v) c.evaluate.new.out (λ v. h.means.binary c.args.operator (int n) v s) s answer t in
    goes_on h.means (λ (v : Datum). v) c.evaluate.new.out (h.means.binary c.args.operator (int c.args.x)) answer s t (value_inside h.means c.args.self.now c.args.operand.now (h.seen c.args.runtime.now)) c.in-None.ensures (subst X zx c.apply_there.ensures)
