use Rattle.std.proofs.Common.{List, sym, subst}
use Rattle.bq_value.specs.Datum.{Datum}
use Rattle.bq_builtin_machine.specs.Action.{Run, done, following}
use Rattle.bq_eval_spec.specs.Frame.{Frame}
use Rattle.bq_eval_spec.specs.Slots.{by_slots}
use Rattle.bq_eval_spec.specs.Statements.{Flow, run_to, turns}
use Rattle.bq_eval_frame.specs.Slots.{slots_of}
use Rattle.bq_eval_rules.specs.Acts.{Acts}
use Rattle.bq_eval_rules.specs.Flows.{flow_of}
use Rattle.bq_eval_rules.specs.Round.{evals}
use Rattle.bq_eval_rules.proofs.Flowing.{walk_ends}
use Rattle.bq_eval_rules.proofs.statements.Runner.walk.Goals as goal

pub returns-in-Ok : goal.returns-in-Ok
returns-in-Ok g c =
    let h = g.R.Runtime in
    let e = evals h.means c.args.self.now.reader.context.now in
    let f = run_to c.args.self.now.depth h.means by_slots e in
    let env = slots_of c.args.frame.now in
    let v = c.args.iterable.now in
    let last = slots_of c.turns-flow.new.frame in
    let flow = flow_of c.turns-flow.result c.turns-flow.new.out in
    let t = h.seen c.end_walk.new.runtime in
    let view : Flow → Flow × Frame = λ r. (r, last) in
    let P : Run h.State (List Datum) → Type 0 = λ run. Acts h.means view flow t (following run (λ vs s. following (turns h.means by_slots e f c.args.each.target.now c.args.each.stmts.now vs env s) (λ r u. done r (h.means.end_walk v u)))) in
    subst P (sym c.in-Ok.ensures) (walk_ends h.means v last flow (h.seen c.turns-flow.new.runtime) t (turns h.means by_slots e f c.args.each.target.now c.args.each.stmts.now c.in-Ok.elements env (h.seen c.begin_walk.new.self)) c.turns-flow.ensures c.end_walk.ensures)
