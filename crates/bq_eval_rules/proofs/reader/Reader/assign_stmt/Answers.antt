use Rattle.bq_value.specs.Datum.{Datum}
use Rattle.bq_builtin_machine.specs.Action.{Action, following, pure}
use Rattle.bq_eval_spec.specs.Frame.{Frame}
use Rattle.bq_eval_spec.specs.Slots.{by_slots}
use Rattle.bq_eval_spec.specs.Statements.{Flow, assign_stmt, next}
use Rattle.bq_eval_spec.specs.Targets.{assign}
use Rattle.bq_eval_frame.specs.Slots.{slots_of}
use Rattle.bq_eval_rules.specs.Flows.{flow_of}
use Rattle.bq_eval_rules.specs.Readers.{evals_of}
use Rattle.bq_eval_rules.proofs.Answering.{goes_on}
use Rattle.bq_eval_rules.proofs.reader.Reader.assign_stmt.Goals as goal

pub returns-in-None : goal.returns-in-None
unfolding assign_stmt
returns-in-None g c =
    let h = g.R.Runtime in
    let e = evals_of h.means c.args.self.now in
    let env = slots_of c.args.frame.now in
    let view : Flow → Flow × Frame = λ f. (f, slots_of c.assign_there.new.frame) in
    let on : Datum → Action h.State (Flow × Frame) = λ v s. following (assign h.means by_slots e c.args.target.now v env s) (λ made. pure (next, made)) in
    goes_on h.means view c.evaluate.new.out on (flow_of c.assign_there.result c.assign_there.new.out) (h.seen c.evaluate.new.runtime) (h.seen c.assign_there.new.runtime) (e c.args.code.now env (h.seen c.args.runtime.now)) c.in-None.ensures c.assign_there.ensures
