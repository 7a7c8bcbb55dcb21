use Rattle.bq_label.proofs.FullForms.{equal_forms}
use Rattle.bq_label.proofs.order.LabelPartialEq.eq.Goals as goal

pub returns : goal.returns
returns c = equal_forms c.args.self.now c.args.other.now c.cmp.result c.is_eq.result c.cmp.ensures c.is_eq.ensures
