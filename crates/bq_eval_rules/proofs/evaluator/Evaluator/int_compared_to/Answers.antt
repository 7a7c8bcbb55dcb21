use Rattle.std.proofs.Common.{rules, ◌≡◌, Bool, subst, ℤ, w64, to_z, of_z}
use Rattle.bq_value.specs.Datum.{int}
use Rattle.bq_builtin_machine.specs.Action.{following}
use Rattle.bq_eval_rules.specs.Acts.{ActsOn}
use Rattle.bq_eval_rules.specs.Answers.{or_reason}
use Rattle.bq_eval_rules.specs.Conditions.{truth_of}
use Rattle.bq_eval_rules.specs.Evaluators.{value_inside}
use Rattle.bq_eval_rules.proofs.Answering.{goes_on_twice}
use Rattle.bq_eval_rules.proofs.evaluator.Evaluator.int_compared_to.Goals as goal

pub returns-in-None : goal.returns-in-None
returns-in-None g c =
    let h = g.R.Runtime in
    let so = or_reason c.int_compared_there.result c.int_compared_there.new.out in
    let s = h.seen c.evaluate.new.runtime in
    let t = h.seen c.int_compared_there.new.runtime in
    let z : to_z w64 (of_z w64 c.args.x) ≡ c.args.x = search rules in
    let X : ℤ → Type 0 = λ n. ActsOn h.means (λ (b : Bool). b) c.evaluate.new.out (λ w. following (h.means.compare c.args.operator (int n) w s) (truth_of h.means)) s so t in
    goes_on_twice h.means (λ (b : Bool). b) c.evaluate.new.out (h.means.compare c.args.operator (int c.args.x)) (truth_of h.means) so s t (value_inside h.means c.args.self.now c.args.right.now (h.seen c.args.runtime.now)) c.in-None.ensures (subst X z c.int_compared_there.ensures)
