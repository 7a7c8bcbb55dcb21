use Rattle.std.proofs.Common.{arith}
use Rattle.std.proofs.lemmas.Grind.{common_steps}
use Rattle.bq_eval_frame.specs.Slots.{slots_of}
use Rattle.bq_eval_rules.proofs.Assigning.{only_variable_bound}
use Rattle.bq_eval_rules.proofs.targets.bind_variables.Goals as goal

pub returns-in_ok-fill-in-Name : goal.returns-in_ok-fill-in-Name
returns-in_ok-fill-in-Name g c =
    let h = g.R.Runtime in
    let known = only_variable_bound h.means c.args.target.now c.in-Name.name c.args.value (slots_of c.args.frame.now) (h.seen c.args.runtime.now) c.in-Name.is in
    grind (arith, common_steps)
