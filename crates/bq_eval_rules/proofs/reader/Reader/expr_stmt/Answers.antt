use Rattle.bq_value.specs.Datum.{Datum}
use Rattle.bq_builtin_machine.specs.Action.{Action, pure}
use Rattle.bq_eval_spec.specs.Frame.{Frame}
use Rattle.bq_eval_spec.specs.Statements.{Flow, expr_stmt, next}
use Rattle.bq_eval_frame.specs.Slots.{slots_of}
use Rattle.bq_eval_rules.specs.Flows.{flow_of}
use Rattle.bq_eval_rules.specs.Readers.{evals_of}
use Rattle.bq_eval_rules.proofs.Answering.{goes_on}
use Rattle.bq_eval_rules.proofs.reader.Reader.expr_stmt.Goals as goal

pub returns-in-None : goal.returns-in-None
unfolding expr_stmt
returns-in-None g c =
    let h = g.R.Runtime in
    let env = slots_of c.args.frame.now in
    let s = h.seen c.evaluate.new.runtime in
    let view : Flow → Flow × Frame = λ f. (f, env) in
    let on : Datum → Action h.State (Flow × Frame) = λ _. pure (next, env) in
    goes_on h.means view c.evaluate.new.out on (flow_of c.next_there.result c.next_there.new.out) s s (evals_of h.means c.args.self.now c.args.code.now env (h.seen c.args.runtime.now)) c.in-None.ensures c.next_there.ensures
