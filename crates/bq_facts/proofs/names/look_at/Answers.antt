use Rattle.std.proofs.Common.{take, List, sym, subst}
use Rattle.std.specs.List.{All}
use Rattle.std.proofs.lemmas.List.{take_all}
use Rattle.std.proofs.lemmas.List.Elements.{All-push}
use Rattle.bq_label.specs.Label.{IsLabel, LabelParts}
use Rattle.bq_facts.proofs.NamedLabels.{next_taken}
use Rattle.bq_facts.proofs.names.look_at.Goals as goal

pub loop-label-preserved : goal.loop-label-preserved
loop-label-preserved c =
    let l = c.loop-label in
    let ls = c.args.labels.now in
    subst (λ (z : List LabelParts). All IsLabel z) (sym (next_taken ls l.label-index c.label-item.result c.loop-label-test.true c.label-item.is))
    (All-push IsLabel (take l.label-index ls) c.label-item.result l.invariant c.name-name.ensures.valid)

pub returns : goal.returns
returns c = subst (λ (z : List LabelParts). All IsLabel z) (take_all c.loop-label.label-index c.args.labels.now c.loop-label-test.false) c.loop-label.invariant
