use Rattle.bq_package_target.proofs.Finding.{finds_nothing, finds_next, finds_all}
use Rattle.bq_package_target.proofs.files.Files.add_all.Goals as goal

pub loop-label-init : goal.loop-label-init
loop-label-init c = finds_nothing c.args.line c.args.self.now

pub loop-label-preserved : goal.loop-label-preserved
loop-label-preserved c =
    let l = c.loop-label in
    finds_next c.args.line c.args.labels.now l.label-index c.label-item.result c.args.self.now l.self c.add.new.self c.loop-label-test.true c.label-item.is l.invariant c.in_ok-add.ensures

pub returns : goal.returns
returns c = let l = c.loop-label in finds_all c.args.line c.args.labels.now l.label-index c.args.self.now l.self c.loop-label-test.false l.invariant
