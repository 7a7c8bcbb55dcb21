use Rattle.std.proofs.Common.{◌∙◌, ap, sym, subst, arith}
use Rattle.std.proofs.lemmas.Grind.{common_steps}
use Rattle.bq_value.specs.Datum.{Datum, list_of_data_of}
use Rattle.bq_builtin_machine.specs.Action.{Run, stopped}
use Rattle.bq_eval_spec.specs.Slots.{by_slots}
use Rattle.bq_eval_frame.specs.Slots.{slots_of}
use Rattle.bq_base.specs.declared.fault.EvalFault.TheVariants.{WrongType}
use Rattle.bq_builtin_machine.specs.State.{stop_at}
use Rattle.bq_value_datum.specs.declared.value.FunctionValue.{FunctionValue}
use Rattle.bq_eval_rules.specs.Acts.{Acts}
use Rattle.bq_eval_rules.specs.Called.{entered}
use Rattle.bq_eval_rules.specs.ContextCalls.{call_place}
use Rattle.bq_eval_rules.specs.Round.{evals, in_function, inside, round_of, units_at, globals_of}
use Rattle.bq_eval_rules.specs.TreeUnits.{unit_of}
use Rattle.bq_eval_rules.specs.Answers.{AnswerPlace}
use Rattle.bq_eval_rules.specs.Flows.{flow_of, result_of}
use Rattle.bq_eval_rules.proofs.CallSteps.{body_runs, calls_step, no_body, same_kind}
use Rattle.bq_eval_rules.proofs.Flowing.{body_returns}
use Rattle.bq_eval_spec.specs.Calls.{apply, call_function, inner_calls, run_body}
use Rattle.bq_eval_rules.proofs.calls.+calls.Goals as goal

pub run_body-returns-then-context-eq0 : goal.run_body-returns-then-context-eq0
run_body-returns-then-context-eq0 g t c =
    let h = g.R.Runtime in
    let x = c.args.context.now in
    no_body x.left h.means (units_at x.program.now (globals_of x.own)) (unit_of c.args.unit.now) c.args.function.now (slots_of c.args.frame.now) (h.seen c.args.runtime.now) c.if-context-eq0.true

pub run_body-returns : goal.run_body-returns
unfolding evals in_function inside round_of
run_body-returns g t c =
    let h = g.R.Runtime in
    let x = c.args.context.now in
    let units = units_at x.program.now (globals_of x.own) in
    let unit = unit_of c.args.unit.now in
    let s = h.seen c.args.runtime.now in
    let env = slots_of c.args.frame.now in
    let after = h.seen c.run_block-flow.new.runtime in
    let flow = flow_of c.run_block-flow.result c.run_block-flow.new.out in
    let runs = body_runs x.left h.means units unit c.args.function.now env s c.as_slice.result.now (omega (arith, c.if-context-eq0.false)) c.as_slice.ensures in
    let P : Run h.State Datum → Type 0 = λ run. Acts h.means (λ v. v) (result_of flow) after run in
    let Q : AnswerPlace → Type 0 = λ place. Acts h.means (λ v. v) place after (run_body h.means by_slots (inner_calls x.left h.means by_slots units) unit c.args.function.now env s) in
    subst Q (sym c.result_of.ensures) (subst P (sym runs) (body_returns h.means (slots_of c.run_block-flow.new.frame) after flow _ c.run_block-flow.ensures))

pub run_entered-returns-in_err-enter : goal.run_entered-returns-in_err-enter
unfolding entered
run_entered-returns-in_err-enter g t c = grind (arith, common_steps)

pub run_entered-returns-in_err-value : goal.run_entered-returns-in_err-value
unfolding entered
run_entered-returns-in_err-value g t c = grind (arith, common_steps)

pub run_entered-returns : goal.run_entered-returns
unfolding entered
run_entered-returns g t c = grind (arith, common_steps)

pub call_function-returns-in_err-frame : goal.call_function-returns-in_err-frame
unfolding call_function
call_function-returns-in_err-frame g t c = grind (arith, common_steps)

pub call_function-returns : goal.call_function-returns
unfolding call_function entered
call_function-returns g t c = grind (arith, common_steps)

pub call_value-returns-in-Function : goal.call_value-returns-in-Function
unfolding inside apply
call_value-returns-in-Function g t c =
    let h = g.R.Runtime in
    let x = c.args.context.now in
    rw (calls_step x.left h.means (units_at x.program.now (globals_of x.own)) c.args.value.now c.args.args (h.seen c.args.runtime.now)) (grind (arith, common_steps, list_of_data_of))

pub call_value-returns-in-BuiltIn : goal.call_value-returns-in-BuiltIn
unfolding inside apply
call_value-returns-in-BuiltIn g t c =
    let h = g.R.Runtime in
    let x = c.args.context.now in
    rw (calls_step x.left h.means (units_at x.program.now (globals_of x.own)) c.args.value.now c.args.args (h.seen c.args.runtime.now)) (grind (arith, common_steps))

pub call_value-returns-in-SchemaRule : goal.call_value-returns-in-SchemaRule
unfolding inside apply
call_value-returns-in-SchemaRule g t c =
    let h = g.R.Runtime in
    let x = c.args.context.now in
    rw (calls_step x.left h.means (units_at x.program.now (globals_of x.own)) c.args.value.now c.args.args (h.seen c.args.runtime.now)) (grind (arith, common_steps))

pub call_value-returns-in-Rule : goal.call_value-returns-in-Rule
unfolding inside apply
call_value-returns-in-Rule g t c =
    let h = g.R.Runtime in
    let x = c.args.context.now in
    rw (calls_step x.left h.means (units_at x.program.now (globals_of x.own)) c.args.value.now c.args.args (h.seen c.args.runtime.now)) (grind (arith, common_steps))

pub call_value-returns-in-Attr : goal.call_value-returns-in-Attr
unfolding inside apply
call_value-returns-in-Attr g t c =
    let h = g.R.Runtime in
    let x = c.args.context.now in
    rw (calls_step x.left h.means (units_at x.program.now (globals_of x.own)) c.args.value.now c.args.args (h.seen c.args.runtime.now)) (grind (arith, common_steps))

pub call_value-returns-in-Cell : goal.call_value-returns-in-Cell
unfolding inside apply
call_value-returns-in-Cell g t c =
    let h = g.R.Runtime in
    let x = c.args.context.now in
    rw (calls_step x.left h.means (units_at x.program.now (globals_of x.own)) c.args.value.now c.args.args (h.seen c.args.runtime.now)) (grind (arith, common_steps))

pub call_value-returns-in_default : goal.call_value-returns-in_default
unfolding inside apply
call_value-returns-in_default g t c =
    let h = g.R.Runtime in
    let x = c.args.context.now in
    rw (calls_step x.left h.means (units_at x.program.now (globals_of x.own)) c.args.value.now c.args.args (h.seen c.args.runtime.now)) (grind (arith, common_steps))

pub call_at-returns-in-None : goal.call_at-returns-in-None
call_at-returns-in-None g t c why is =
    let m = g.R.Runtime.means in
    c.in-None.ensures c.args.called.now.defaults.items c.args.args (g.R.Runtime.seen c.args.runtime.now) ∙ ap (λ k. stopped (stop_at k (m.machine (g.R.Runtime.seen c.args.runtime.now)))) (same_kind WrongType why is)

pub call_at-returns-in-Some : goal.call_at-returns-in-Some
call_at-returns-in-Some g t c =
    let h = g.R.Runtime in
    let f = c.in-Some.callee.called.now in
    let s = h.seen c.args.runtime.now in
    let E : FunctionValue → Type 0 = λ x. Acts h.means (λ v. v) c.call_function.result (h.seen c.call_function.new.runtime) (call_place h.means c.args.context.now x.«module» x.place x.defaults.items c.args.args s) in
    let P : Run h.State Datum → Type 0 = λ run. Acts h.means (λ v. v) c.call_function.result (h.seen c.call_function.new.runtime) run in
    subst E c.in-Some.ensures.0 (subst P (sym (c.in-Some.ensures.1 f.defaults.items c.args.args s)) c.call_function.ensures)
