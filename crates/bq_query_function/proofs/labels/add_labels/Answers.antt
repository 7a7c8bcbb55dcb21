use Rattle.std.proofs.Common.{refl, take, get_or, [], subst}
use Rattle.std.proofs.lemmas.List.{take_more, get_or_read}
use Rattle.bq_label.specs.Label.{LabelParts, label_at, full_form}
use Rattle.bq_query_function.specs.Order.{is_text}
use Rattle.bq_query_function.specs.Words.{Adds}
use Rattle.bq_query_function.specs.Labels.{is_among}
use Rattle.bq_query_function.proofs.Tests.{adds_none, adds_next}
use Rattle.bq_query_function.proofs.labels.add_labels.Goals as goal

pub loop-label-init : goal.loop-label-init
loop-label-init c = adds_none (is_among (take 0 c.args.labels.now)) c.args.targets.now c.args.marks.now.items c.args.marks.now.items (λ t. refl) refl

pub loop-label-preserved : goal.loop-label-preserved
loop-label-preserved c =
    let i = c.loop-label.label-index in
    let d : LabelParts = label_at [] [] [] in
    adds_next (λ l t. is_text (full_form l) t) c.args.labels.now i (get_or c.args.labels.now i d) c.args.targets.now c.args.marks.now.items c.loop-label.marks.items c.add_label.new.marks.items
    (take_more c.args.labels.now i d c.loop-label-test.true) c.loop-label.invariant
    (subst (λ (m : LabelParts). Adds (is_text (full_form m)) c.args.targets.now c.loop-label.marks.items c.add_label.new.marks.items)
    (get_or_read c.args.labels.now i c.label-item.result c.loop-label-test.true c.label-item.is d) c.add_label.ensures)
