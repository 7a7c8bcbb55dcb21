use Rattle.std.proofs.Common.{arith, subst}
use Rattle.std.proofs.lemmas.Grind.{common_steps}
use Rattle.bq_builtin_machine.specs.Action.{Run}
use Rattle.bq_eval_spec.specs.Frame.{Frame}
use Rattle.bq_eval_spec.specs.Slots.{by_slots}
use Rattle.bq_eval_spec.specs.Statements.{Flow, run_to, turns}
use Rattle.bq_eval_frame.specs.Slots.{slots_of}
use Rattle.bq_eval_rules.specs.declared.flow.Flow.TheVariants as variants
use Rattle.bq_eval_rules.specs.Acts.{Acts}
use Rattle.bq_eval_rules.specs.Flows.{flow_of}
use Rattle.bq_eval_rules.specs.Round.{evals}
use Rattle.bq_eval_rules.proofs.Flowing.{ends_loop}
use Rattle.bq_eval_rules.proofs.Next.{one_left}
use Rattle.bq_eval_rules.proofs.statements.Runner.turns.Goals as goal

pub loop-out-init : goal.loop-out-init
unfolding turns
loop-out-init g c = grind (arith, common_steps)

pub loop-out-preserved : goal.loop-out-preserved
unfolding turns
loop-out-preserved g c = grind (arith, common_steps)

pub returns-in-Ended : goal.returns-in-Ended
returns-in-Ended g c =
    let h = g.R.Runtime in
    let e = evals h.means c.args.self.now.reader.context.now in
    let last = slots_of c.turn.new.frame in
    let t = h.seen c.turn.new.runtime in
    let P : Run h.State (Flow × Frame) → Type 0 = λ run. Acts h.means (λ f. (f, last)) (flow_of variants.Ended c.turn.new.out) t run in
    subst P c.loop-out.invariant (ends_loop h.means last t c.turn.new.out e (run_to c.args.self.now.depth h.means by_slots e) c.args.each.target.now c.args.each.stmts.now c.in-Ok-Some.value c.next.new.self c.loop-out.elements
    (one_left _ _ _ _ c.in-Ok-Some.field-0-is c.in-Ok-Some.ensures) (slots_of c.loop-out.frame) (h.seen c.loop-out.runtime) c.in-Ended.ensures)

pub returns-in-Leave : goal.returns-in-Leave
unfolding turns
returns-in-Leave g c = grind (arith, common_steps)

pub returns-in-Ok-None : goal.returns-in-Ok-None
unfolding turns
returns-in-Ok-None g c = grind (arith, common_steps)
