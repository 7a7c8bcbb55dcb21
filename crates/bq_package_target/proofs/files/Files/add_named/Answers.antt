use Rattle.std.proofs.Common.{subst, List}
use Rattle.std.specs.List.{flat_map}
use Rattle.bq_package_target.specs.Value.{labels_in}
use Rattle.bq_package_target.specs.declared.value.GivenAttribute.{GivenAttribute}
use Rattle.bq_package_target.specs.Files.{FindsOwn}
use Rattle.bq_package_target.proofs.Finding.{finds_nothing, own_each, own_all}
use Rattle.bq_package_target.proofs.files.Files.add_named.Goals as goal

pub loop-target-init : goal.loop-target-init
loop-target-init c = finds_nothing 0 c.args.self.now

pub loop-target-preserved : goal.loop-target-preserved
loop-target-preserved c =
    let l = c.loop-target in
    let found : FindsOwn c.args.own.now (labels_in c.target-item.result.attributes) l.self c.add_attributes.new.self =
    subst (λ (given : List GivenAttribute). FindsOwn c.args.own.now (labels_in given) l.self c.add_attributes.new.self) c.as_slice.ensures c.in_ok-add_attributes.ensures in
    own_each (λ t. labels_in t.attributes) c.args.own.now c.args.targets.now l.target-index c.target-item.result c.args.self.now l.self c.add_attributes.new.self c.loop-target-test.true c.target-item.is l.invariant found

pub returns : goal.returns
returns c = let l = c.loop-target in own_all (flat_map (λ t. labels_in t.attributes)) c.args.own.now c.args.targets.now l.target-index c.args.self.now l.self c.loop-target-test.false l.invariant
