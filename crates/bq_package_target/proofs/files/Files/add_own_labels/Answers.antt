use Rattle.bq_package_target.proofs.Finding.{finds_nothing, own_next, own_all}
use Rattle.bq_package_target.proofs.files.Files.add_own_labels.Goals as goal

pub loop-label-init : goal.loop-label-init
loop-label-init c = finds_nothing 0 c.args.self.now

pub loop-label-preserved : goal.loop-label-preserved
loop-label-preserved c =
    let l = c.loop-label in
    own_next c.args.own.now c.args.labels.now l.label-index c.label-item.result c.args.self.now l.self c.add_own.new.self c.loop-label-test.true c.label-item.is l.invariant c.in_ok-add_own.ensures

pub returns : goal.returns
returns c = let l = c.loop-label in own_all (λ x. x) c.args.own.now c.args.labels.now l.label-index c.args.self.now l.self c.loop-label-test.false l.invariant
