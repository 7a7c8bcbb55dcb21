use Rattle.std.proofs.Common.{subst, List}
use Rattle.bq_label.specs.Label.{LabelParts}
use Rattle.bq_value_datum.specs.AttributeValue.{labels_of}
use Rattle.bq_package_target.specs.Files.{FindsOwn}
use Rattle.bq_package_target.specs.Value.{labels_in}
use Rattle.bq_package_target.proofs.Finding.{finds_nothing, own_each, own_all}
use Rattle.bq_package_target.proofs.files.Files.add_attributes.Goals as goal

pub loop-given-init : goal.loop-given-init
loop-given-init c = finds_nothing 0 c.args.self.now

pub loop-given-preserved : goal.loop-given-preserved
loop-given-preserved c =
    let l = c.loop-given in
    let own = c.args.own.now in
    let now = c.add_own_labels.new.self in
    let added : FindsOwn own (labels_of c.given-item.result.value) l.self now = subst (λ (ls : List LabelParts). FindsOwn own ls l.self now) c.labels.ensures c.in_ok-add_own_labels.ensures in
    own_each (λ a. labels_of a.value) own c.args.attributes.now l.given-index c.given-item.result c.args.self.now l.self now c.loop-given-test.true c.given-item.is l.invariant added

pub returns : goal.returns
returns c = let l = c.loop-given in own_all labels_in c.args.own.now c.args.attributes.now l.given-index c.args.self.now l.self c.loop-given-test.false l.invariant
