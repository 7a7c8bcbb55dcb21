use Rattle.std.proofs.Common.{Bool, sym, subst}
use Rattle.bq_value.specs.Datum.{Datum}
use Rattle.bq_builtin_machine.specs.Action.{Run, following}
use Rattle.bq_eval_rules.specs.Acts.{Acts}
use Rattle.bq_eval_rules.specs.Answers.{or_reason}
use Rattle.bq_eval_rules.specs.Conditions.{truth_of}
use Rattle.bq_eval_rules.specs.Evaluators.{value_inside}
use Rattle.bq_eval_rules.proofs.Answering.{goes_on}
use Rattle.bq_eval_rules.proofs.evaluator.Evaluator.value_holds.Goals as goal

pub returns-in-Some : goal.returns-in-Some
returns-in-Some g c =
    let h = g.R.Runtime in
    let P : Run h.State Datum → Type 0 = λ run. Acts h.means (λ (b : Bool). b) (or_reason c.lent_holds.result c.lent_holds.new.out) (h.seen c.lent_holds.new.runtime) (following run (truth_of h.means)) in
    subst P (sym c.in-Some.ensures) c.lent_holds.ensures

pub returns-in-None : goal.returns-in-None
returns-in-None g c =
    let h = g.R.Runtime in
    let s = h.seen c.evaluate.new.runtime in
    goes_on h.means (λ (b : Bool). b) c.evaluate.new.out (truth_of h.means) (or_reason c.holds_there.result c.holds_there.new.out) s s (value_inside h.means c.args.self.now c.args.condition.now (h.seen c.args.runtime.now)) c.in-None.ensures c.holds_there.ensures
