use Rattle.std.proofs.Common.{◌≡◌, arith}
use Rattle.std.proofs.lemmas.Grind.{common_steps}
use Rattle.bq_value.specs.Datum.{data_of, function}
use Rattle.bq_eval_rules.proofs.CallSteps.{value_called}
use Rattle.bq_eval_rules.proofs.called.callee_of.Goals as goal

pub returns-in-Function : goal.returns-in-Function
returns-in-Function g c =
    let k = c.deref.result.now in
    let is : c.args.value.now ≡ function k.«module» k.place k.name (data_of k.defaults.items) = grind (arith, common_steps) in
    value_called g.R.Runtime.means c.args.context.now c.args.value.now k c.callee_at.result is c.callee_at.ensures
