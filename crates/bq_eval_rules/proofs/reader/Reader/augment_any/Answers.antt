use Rattle.std.proofs.Common.{arith}
use Rattle.std.proofs.lemmas.Grind.{common_steps}
use Rattle.bq_eval_frame.specs.Slots.{slots_of}
use Rattle.bq_eval_rules.specs.Round.{evals}
use Rattle.bq_eval_rules.proofs.Assigning.{variable_augmented, item_augmented, no_tuple_augmented, no_list_augmented}
use Rattle.bq_eval_rules.proofs.reader.Reader.augment_any.Goals as goal

pub returns-in-Name : goal.returns-in-Name
returns-in-Name g c =
    let h = g.R.Runtime in
    rw (variable_augmented h.means (evals h.means c.args.self.now.context.now) c.args.target.now c.args.operator c.args.code.now (slots_of c.args.frame.now) (h.seen c.args.runtime.now) _ c.in-Name.is) (c.augment_name.ensures)

pub returns-in-Index : goal.returns-in-Index
returns-in-Index g c =
    let h = g.R.Runtime in
    rw (item_augmented h.means (evals h.means c.args.self.now.context.now) c.args.target.now c.args.operator c.args.code.now (slots_of c.args.frame.now) (h.seen c.args.runtime.now) _ _ c.in-Index.is) (grind (arith, common_steps))

pub returns-in-Tuple : goal.returns-in-Tuple
returns-in-Tuple g c =
    let h = g.R.Runtime in
    rw (no_tuple_augmented h.means (evals h.means c.args.self.now.context.now) c.args.target.now c.args.operator c.args.code.now (slots_of c.args.frame.now) (h.seen c.args.runtime.now) _ c.in-Tuple.is) (grind (arith, common_steps))

pub returns-in-List : goal.returns-in-List
returns-in-List g c =
    let h = g.R.Runtime in
    rw (no_list_augmented h.means (evals h.means c.args.self.now.context.now) c.args.target.now c.args.operator c.args.code.now (slots_of c.args.frame.now) (h.seen c.args.runtime.now) _ c.in-List.is) (grind (arith, common_steps))
