use Rattle.std.proofs.Common.{arith}
use Rattle.std.proofs.lemmas.Grind.{common_steps}
use Rattle.bq_eval_frame.specs.Slots.{slots_of}
use Rattle.bq_eval_rules.specs.Round.{evals}
use Rattle.bq_eval_rules.proofs.Assigning.{item_assigned, variable_assigned}
use Rattle.bq_eval_rules.proofs.reader.Reader.assign.Goals as goal

pub returns-in_ok-fill-in-Name : goal.returns-in_ok-fill-in-Name
returns-in_ok-fill-in-Name g c =
    let h = g.R.Runtime in
    let known = variable_assigned h.means (evals h.means c.args.self.now.context.now) c.args.target.now c.in-Name.name c.args.value (slots_of c.args.frame.now) (h.seen c.args.runtime.now) c.in-Name.is in
    grind (arith, common_steps)

pub returns-in-Index : goal.returns-in-Index
returns-in-Index g c =
    let h = g.R.Runtime in
    rw (item_assigned h.means (evals h.means c.args.self.now.context.now) c.args.target.now _ _ c.args.value (slots_of c.args.frame.now) (h.seen c.args.runtime.now) c.in-Index.is) (grind (arith, common_steps))
