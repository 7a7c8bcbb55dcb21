use Rattle.std.proofs.Common.{◌∙◌, ◌||◌, ap}
use Rattle.std.specs.List.{list_any}
use Rattle.bq_label_glob.proofs.Sets.{any_with, adds_next, all_added}
use Rattle.bq_label_glob.proofs.unmatched.set_of.Goals as goal

pub loop-name-init : goal.loop-name-init
loop-name-init c = λ test. ap (λ s. list_any test s || list_any test c.args.names.now) c.new-set.ensures

pub loop-name-preserved : goal.loop-name-preserved
loop-name-preserved c =
    λ test. adds_next test c.args.names.now c.loop-name.name-index c.name-item.result (list_any test c.loop-name.set) (list_any test c.add.new.self) c.loop-name-test.true c.name-item.is
    (ap (list_any test) c.in_ok-add.ensures.after ∙ any_with test c.name-item.result c.loop-name.set) (c.loop-name.invariant test)

pub returns : goal.returns
returns c = λ test. all_added test c.args.names.now c.loop-name.name-index (list_any test c.loop-name.set) c.loop-name-test.false (c.loop-name.invariant test)
