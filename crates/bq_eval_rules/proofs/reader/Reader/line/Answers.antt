use Rattle.std.proofs.Common.{arith, subst}
use Rattle.std.proofs.lemmas.Grind.{common_steps}
use Rattle.bq_builtin_machine.specs.Action.{Run}
use Rattle.bq_eval_spec.specs.Frame.{Frame}
use Rattle.bq_eval_spec.specs.Statements.{Flow, line}
use Rattle.bq_eval_frame.specs.Slots.{slots_of}
use Rattle.bq_eval_rules.specs.declared.flow.Flow.TheVariants as variants
use Rattle.bq_eval_rules.specs.Acts.{Acts}
use Rattle.bq_eval_rules.specs.Flows.{flow_of}
use Rattle.bq_eval_rules.specs.Round.{evals}
use Rattle.bq_eval_rules.proofs.Flowing.{ends_line}
use Rattle.bq_eval_rules.proofs.reader.Reader.line.Goals as goal

pub loop-stmt-init : goal.loop-stmt-init
unfolding line
loop-stmt-init g c = grind (arith, common_steps)

pub loop-stmt-preserved : goal.loop-stmt-preserved
unfolding line
loop-stmt-preserved g c = grind (arith, common_steps)

pub returns-in-Leave : goal.returns-in-Leave
unfolding line
returns-in-Leave g c = grind (arith, common_steps)

pub returns-in-Again : goal.returns-in-Again
unfolding line
returns-in-Again g c = grind (arith, common_steps)

pub returns-in-Ended : goal.returns-in-Ended
returns-in-Ended g c =
    let h = g.R.Runtime in
    let last = slots_of c.small_stmt.new.frame in
    let t = h.seen c.small_stmt.new.runtime in
    let P : Run h.State (Flow × Frame) → Type 0 = λ run. Acts h.means (λ f. (f, last)) (flow_of variants.Ended c.small_stmt.new.out) t run in
    subst P c.loop-stmt.invariant (ends_line h.means last t c.small_stmt.new.out (evals h.means c.args.self.now.context.now) c.args.stmts.now c.loop-stmt.stmt-index c.stmt-item.result c.loop-stmt-test.true c.stmt-item.is (slots_of c.loop-stmt.frame) (h.seen c.loop-stmt.runtime) c.in-Ended.ensures)

pub returns : goal.returns
unfolding line
returns g c = grind (arith, common_steps)
