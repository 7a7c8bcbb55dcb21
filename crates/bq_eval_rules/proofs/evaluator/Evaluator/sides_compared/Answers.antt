use Rattle.std.proofs.Common.{Bool, sym, subst}
use Rattle.bq_value.specs.Datum.{Datum}
use Rattle.bq_builtin_machine.specs.Action.{Action, Run, following}
use Rattle.bq_eval_rules.specs.Acts.{Acts}
use Rattle.bq_eval_rules.specs.Answers.{or_reason}
use Rattle.bq_eval_rules.specs.Conditions.{truth_of}
use Rattle.bq_eval_rules.specs.Evaluators.{value_inside}
use Rattle.bq_eval_rules.proofs.Answering.{goes_on_twice}
use Rattle.bq_eval_rules.proofs.evaluator.Evaluator.sides_compared.Goals as goal

pub returns-in-Some : goal.returns-in-Some
returns-in-Some g c =
    let h = g.R.Runtime in
    let next : Datum → Action h.State Datum = λ v s. following (value_inside h.means c.args.self.now c.args.right.now s) (h.means.compare c.args.operator v) in
    let P : Run h.State Datum → Type 0 = λ run. Acts h.means (λ (b : Bool). b) (or_reason c.lent_compared_to.result c.lent_compared_to.new.out) (h.seen c.lent_compared_to.new.runtime) (following (following run next) (truth_of h.means)) in
    subst P (sym c.in-Some.ensures) c.lent_compared_to.ensures

pub returns-in-None : goal.returns-in-None
returns-in-None g c =
    let h = g.R.Runtime in
    let next : Datum → Action h.State Datum = λ v s. following (value_inside h.means c.args.self.now c.args.right.now s) (h.means.compare c.args.operator v) in
    goes_on_twice h.means (λ (b : Bool). b) c.evaluate.new.out next (truth_of h.means) (or_reason c.compared_there.result c.compared_there.new.out) (h.seen c.evaluate.new.runtime) (h.seen c.compared_there.new.runtime) (value_inside h.means c.args.self.now c.args.left.now (h.seen c.args.runtime.now)) c.in-None.ensures c.compared_there.ensures
