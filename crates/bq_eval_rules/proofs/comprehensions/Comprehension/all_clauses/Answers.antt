use Rattle.std.proofs.Common.{rules, ◌≡◌, refl}
use Rattle.bq_base.specs.declared.fault.EvalFault.{EvalFault}
use Rattle.bq_value.specs.declared.error.EvalErr.TheVariants.{Bad}
use Rattle.bq_builtin_machine.specs.Action.{stopped}
use Rattle.bq_builtin_machine.specs.State.{stop_at}
use Rattle.bq_eval_spec.specs.Comprehensions.{first_clauses}
use Rattle.bq_eval_spec.specs.Slots.{by_slots}
use Rattle.bq_eval_frame.specs.Slots.{slots_of}
use Rattle.bq_eval_rules.specs.ComprehensionClauses.{element_in}
use Rattle.bq_eval_rules.specs.Evaluators.{evals_in, frame_of}
use Rattle.bq_eval_rules.proofs.Clauses.{first_begins, first_decides, first_stops}
use Rattle.bq_eval_rules.proofs.Forms.{for_out, if_out}
use Rattle.bq_eval_rules.proofs.comprehensions.Comprehension.all_clauses.Goals as goal

pub returns-in_err-outermost-in-For : goal.returns-in_err-outermost-in-For
returns-in_err-outermost-in-For g c =
    let h = g.R.Runtime in
    let x = c.args.self.now.rules.now in
    let e = evals_in h.means x in
    let b = element_in h.means x c.args.self.now.element in
    let layer = for_out c.first-item.result c.in-For.target c.in-For.iterable c.in-For.is in
    let bad : (why : EvalFault) → c.in_err-outermost-in-For.field-0.0 ≡ Bad why → first_clauses h.means by_slots e c.args.clauses.now (frame_of x) b (slots_of c.args.frame.now) c.args.content.now (h.seen c.args.runtime.now) ≡ stopped (stop_at why (h.means.machine (h.seen c.open.new.runtime))) =
    λ why is. first_stops h.means e b (frame_of x) (slots_of c.args.frame.now) c.args.content.now (h.seen c.args.runtime.now) c.args.clauses.now c.first-item.result _ c.in-len1-up.len_at_least c.first-item.is _ (c.in_err-outermost-in-For.ensures why is) layer refl in
    search (rules, bad)

pub returns-in_ok-outermost-in-For : goal.returns-in_ok-outermost-in-For
returns-in_ok-outermost-in-For g c =
    let h = g.R.Runtime in
    let x = c.args.self.now.rules.now in
    let e = evals_in h.means x in
    let b = element_in h.means x c.args.self.now.element in
    let layer = for_out c.first-item.result c.in-For.target c.in-For.iterable c.in-For.is in
    rw (first_begins h.means e b (frame_of x) (slots_of c.args.frame.now) c.args.content.now (h.seen c.args.runtime.now) c.args.clauses.now c.first-item.result _ c.in-len1-up.len_at_least c.first-item.is _ _ c.in_ok-outermost-in-For.ensures layer refl) c.turns.ensures

pub returns-in-If : goal.returns-in-If
returns-in-If g c =
    let h = g.R.Runtime in
    let x = c.args.self.now.rules.now in
    let e = evals_in h.means x in
    let b = element_in h.means x c.args.self.now.element in
    rw (first_decides h.means e b (frame_of x) (slots_of c.args.frame.now) c.args.content.now (h.seen c.args.runtime.now) c.args.clauses.now c.first-item.result _ c.in-len1-up.len_at_least c.first-item.is (if_out c.first-item.result _ c.in-If.is)) c.clauses-in-If.ensures
