use Rattle.std.proofs.Common.{◌∙◌, arith, sym, subst}
use Rattle.std.proofs.lemmas.Grind.{common_steps}
use Rattle.bq_value.specs.Datum.{Datum}
use Rattle.bq_builtin_machine.specs.Action.{Run}
use Rattle.bq_eval_spec.specs.Expressions.{conditional}
use Rattle.bq_eval_frame.specs.Slots.{slots_of}
use Rattle.bq_eval_rules.specs.Acts.{Acts}
use Rattle.bq_eval_rules.specs.Answers.{answer_of}
use Rattle.bq_eval_rules.specs.Nests.{nested}
use Rattle.bq_eval_rules.proofs.Deciding.{choice_left, choice_stops, choice_taken}
use Rattle.bq_eval_rules.proofs.evaluator.Evaluator.conditional.Goals as goal

pub loop-choice-init : goal.loop-choice-init
unfolding conditional
loop-choice-init g c = grind (arith, common_steps)

pub loop-choice-preserved : goal.loop-choice-preserved
loop-choice-preserved g c =
    let h = g.R.Runtime in
    let e = nested h.means c.args.self.now.depth c.args.self.now.context.now in
    sym (choice_left h.means e c.args.otherwise.now (slots_of c.args.self.now.frame.now) c.args.choices.now c.loop-choice.choice-index c.choice-item.result (h.seen c.loop-choice.runtime) (h.seen c.chooses.new.runtime) c.loop-choice-test.true c.choice-item.is
    c.in-Some-false.field-0 c.in-Some-false.ensures c.in-Some-false.field-0-test) ∙ c.loop-choice.invariant

pub returns-in-None : goal.returns-in-None
returns-in-None g c =
    let h = g.R.Runtime in
    let e = nested h.means c.args.self.now.depth c.args.self.now.context.now in
    let P : Run h.State Datum → Type 0 = λ run. Acts h.means (λ v. v) (answer_of c.failed_there.result c.failed_there.new.out) (h.seen c.chooses.new.runtime) run in
    subst P c.loop-choice.invariant (rw c.failed_there.ensures (λ why is. choice_stops h.means e c.args.otherwise.now (slots_of c.args.self.now.frame.now) c.args.choices.now c.loop-choice.choice-index c.choice-item.result (h.seen c.loop-choice.runtime) (h.seen c.chooses.new.runtime) c.loop-choice-test.true c.choice-item.is
    _ (c.in-None.ensures why is)))

pub returns-in-Some-true : goal.returns-in-Some-true
returns-in-Some-true g c =
    let h = g.R.Runtime in
    let e = nested h.means c.args.self.now.depth c.args.self.now.context.now in
    let P : Run h.State Datum → Type 0 = λ run. Acts h.means (λ v. v) (answer_of c.evaluate.result c.evaluate.new.out) (h.seen c.evaluate.new.runtime) run in
    subst P (sym (choice_taken h.means e c.args.otherwise.now (slots_of c.args.self.now.frame.now) c.args.choices.now c.loop-choice.choice-index c.choice-item.result (h.seen c.loop-choice.runtime) (h.seen c.chooses.new.runtime) c.loop-choice-test.true c.choice-item.is
    c.in-Some-true.field-0 c.in-Some-true.ensures c.in-Some-true.field-0-test) ∙ c.loop-choice.invariant) c.evaluate.ensures

pub returns : goal.returns
unfolding conditional
returns g c = grind (arith, common_steps)
