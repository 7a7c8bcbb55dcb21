use Rattle.std.proofs.Common.{refl}
use Rattle.bq_base.specs.declared.fault.EvalFault.TheVariants.{WrongType}
use Rattle.bq_eval_spec.specs.Calls.{inner_calls}
use Rattle.bq_eval_spec.specs.Slots.{by_slots}
use Rattle.bq_eval_rules.specs.Round.{globals_of, units_at}
use Rattle.bq_eval_rules.specs.TreeUnits.{unit_of}
use Rattle.bq_eval_rules.proofs.CallSteps.{known_function, no_function, no_unit}
use Rattle.bq_eval_rules.proofs.called.callee_at.Goals as goal

pub returns-in-None : goal.returns-in-None
returns-in-None g c ds p s =
    let m = g.R.Runtime.means in
    let x = c.args.context.now in
    let units = units_at x.program.now (globals_of x.own) in
    no_unit m units (inner_calls x.left m by_slots units) c.args.called.now.«module» c.args.called.now.place ds p s c.in-None.ensures WrongType refl

pub returns-in-None-get : goal.returns-in-None-get
returns-in-None-get g c ds p s =
    let m = g.R.Runtime.means in
    let x = c.args.context.now in
    let units = units_at x.program.now (globals_of x.own) in
    no_function m units (inner_calls x.left m by_slots units) c.args.called.now.«module» c.args.called.now.place ds p s (unit_of c.in-Some.unit) c.in-Some.ensures c.in-None-get.ensures.lookup.3 WrongType refl

pub returns-in-Some-get : goal.returns-in-Some-get
returns-in-Some-get g c =
    let m = g.R.Runtime.means in
    let x = c.args.context.now in
    let units = units_at x.program.now (globals_of x.own) in
    let d = c.in-Some-get.function.now in (
      refl,
      λ ds p s. known_function m units (inner_calls x.left m by_slots units) c.args.called.now.«module» c.args.called.now.place ds p s (unit_of c.in-Some.unit) d c.in-Some.ensures c.in-Some-get.ensures.lookup.3.0 (c.in-Some-get.ensures.lookup.3.1 d),
    )
