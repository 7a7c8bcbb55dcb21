use Rattle.std.proofs.Common.{Some, subst}
use Rattle.std.specs.BTreeMap.{Updates}
use Rattle.bq_label.specs.Label.{LabelParts}
use Rattle.bq_label_set.specs.Numbering.{label_cmp}
use Rattle.bq_label_set.proofs.Put.{others_colliding}
use Rattle.bq_label_set.proofs.numbering.LabelNumbers.put.Goals as goal

pub returns-clause-others : goal.returns-clause-others
returns-clause-others c other i apart has =
    let old = c.args.self.now.colliding in
    let new = c.insert-2.new.self in
    let gets = subst (λ (l : LabelParts). Updates label_cmp old new l (Some c.args.number)) c.in_ok-share.ensures c.in_ok-insert-2.ensures.updates in
    others_colliding c.args.self.now.by_hash old new c.args.label.now other c.args.number i gets apart has
