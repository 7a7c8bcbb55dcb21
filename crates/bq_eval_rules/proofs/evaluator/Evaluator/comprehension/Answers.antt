use Rattle.std.proofs.Common.{◌∙◌, ap, sym, subst, arith}
use Rattle.std.proofs.lemmas.Grind.{common_steps}
use Rattle.bq_value.specs.Datum.{Datum}
use Rattle.bq_builtin_machine.specs.Action.{Run, following}
use Rattle.bq_eval_frame.specs.Slots.{slots_of}
use Rattle.bq_eval_rules.specs.Acts.{Acts}
use Rattle.bq_eval_rules.specs.ComprehensionClauses.{element_in}
use Rattle.bq_eval_rules.specs.Nests.{nested}
use Rattle.bq_eval_rules.proofs.Clauses.{comprehension_makes}
use Rattle.bq_eval_rules.proofs.evaluator.Evaluator.comprehension.Goals as goal

pub returns-in_err-run_clauses : goal.returns-in_err-run_clauses
returns-in_err-run_clauses g c =
    let h = g.R.Runtime in
    let e = nested h.means c.args.self.now.depth c.args.self.now.context.now in
    let makes = comprehension_makes h.means e c.args.empty (element_in h.means c.args.self.now c.args.element) c.args.clauses.now c.args.own (slots_of c.args.self.now.frame.now) (h.seen c.args.runtime.now) (h.seen c.step.new.self) c.in_ok-step.ensures in
    grind (arith, common_steps)

pub returns : goal.returns
returns g c =
    let h = g.R.Runtime in
    let e = nested h.means c.args.self.now.depth c.args.self.now.context.now in
    let makes = comprehension_makes h.means e c.args.empty (element_in h.means c.args.self.now c.args.element) c.args.clauses.now c.args.own (slots_of c.args.self.now.frame.now) (h.seen c.args.runtime.now) (h.seen c.step.new.self) c.in_ok-step.ensures in
    let P : Run h.State Datum → Type 0 = λ run. Acts h.means (λ v. v) c.make.result (h.seen c.make.new.self) run in
    subst P (sym (makes ∙ ap (λ r. following r h.means.make) c.in_ok-run_clauses.ensures)) c.make.ensures
