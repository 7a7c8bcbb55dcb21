use Rattle.std.proofs.Common.{arith, subst}
use Rattle.std.proofs.lemmas.Grind.{common_steps}
use Rattle.bq_builtin_machine.specs.Action.{Run}
use Rattle.bq_eval_spec.specs.Frame.{Frame}
use Rattle.bq_eval_spec.specs.Slots.{by_slots}
use Rattle.bq_eval_spec.specs.Statements.{Flow, block, run_to}
use Rattle.bq_eval_frame.specs.Slots.{slots_of}
use Rattle.bq_eval_rules.specs.declared.flow.Flow.TheVariants as variants
use Rattle.bq_eval_rules.specs.Acts.{Acts}
use Rattle.bq_eval_rules.specs.Flows.{flow_of}
use Rattle.bq_eval_rules.specs.Round.{evals}
use Rattle.bq_eval_rules.proofs.Flowing.{ends_statements}
use Rattle.bq_eval_rules.proofs.statements.Runner.block.Goals as goal

pub loop-stmt-init : goal.loop-stmt-init
unfolding block
loop-stmt-init g c = grind (arith, common_steps)

pub loop-stmt-preserved : goal.loop-stmt-preserved
unfolding block
loop-stmt-preserved g c = grind (arith, common_steps)

pub returns-in-Leave : goal.returns-in-Leave
unfolding block
returns-in-Leave g c = grind (arith, common_steps)

pub returns-in-Again : goal.returns-in-Again
unfolding block
returns-in-Again g c = grind (arith, common_steps)

pub returns-in-Ended : goal.returns-in-Ended
returns-in-Ended g c =
    let h = g.R.Runtime in
    let e = evals h.means c.args.self.now.reader.context.now in
    let last = slots_of c.run.new.arg5 in
    let t = h.seen c.run.new.arg6 in
    let P : Run h.State (Flow × Frame) → Type 0 = λ run. Acts h.means (λ f. (f, last)) (flow_of variants.Ended c.run.new.arg8) t run in
    subst P c.loop-stmt.invariant (ends_statements h.means last t c.run.new.arg8 e (run_to c.args.self.now.depth h.means by_slots e) c.args.stmts.now c.loop-stmt.stmt-index c.stmt-item.result c.loop-stmt-test.true c.stmt-item.is (slots_of c.loop-stmt.frame) (h.seen c.loop-stmt.runtime) (c.requires.says _ _ _ _ _ _ _ _ _ c.in-Ended.ensures))

pub returns : goal.returns
unfolding block
returns g c = grind (arith, common_steps)
