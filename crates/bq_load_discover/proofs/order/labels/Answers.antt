use Rattle.std.proofs.Common.{◌∙◌, [], List, sym, ap, subst, take}
use Rattle.std.proofs.lemmas.List.{take_all}
use Rattle.std.proofs.lemmas.List.Elements.{All-push}
use Rattle.bq_label.specs.Label.{IsLabel}
use Rattle.bq_label_set.specs.Labels.{with_labels}
use Rattle.bq_load_discover.specs.declared.modules.Module.{Module}
use Rattle.bq_load_discover.specs.Module.{labels_of, AreValid}
use Rattle.bq_load_discover.proofs.Lists.{next_taken}
use Rattle.bq_load_discover.proofs.Steps.{labels_next}
use Rattle.bq_load_discover.proofs.order.labels.Goals as goal

pub loop-each-preserved : goal.loop-each-preserved
loop-each-preserved c =
    let l = c.loop-each in
    let ms = c.args.modules.now in
    record {
      added = labels_next ms l.each-index c.each-item.result l.labels c.add.new.self c.loop-each-test.true c.each-item.is l.invariant.added c.in_ok-add.ensures.after;
      valid = subst (λ (z : List Module). AreValid z) (sym (next_taken ms l.each-index c.each-item.result c.loop-each-test.true c.each-item.is))
          (All-push (λ m. IsLabel m.label) (take l.each-index ms) c.each-item.result l.invariant.valid c.name-name.ensures.valid);
    }

pub returns-clause-labels : goal.returns-clause-labels
returns-clause-labels c = let l = c.loop-each in l.invariant.added ∙ ap (λ (z : List Module). with_labels [] (labels_of z)) (take_all l.each-index c.args.modules.now c.loop-each-test.false)
