use Rattle.std.proofs.Common.{◌∙◌, [], ap}
use Rattle.std.proofs.lemmas.List.{take_all}
use Rattle.bq_label_set.specs.Labels.{with_labels}
use Rattle.bq_load_discover.specs.Modules.{build_labels}
use Rattle.bq_load_discover.proofs.Steps.{builds_next}
use Rattle.bq_load_discover.proofs.exploration.build_labels.Goals as goal

pub loop-build-preserved : goal.loop-build-preserved
loop-build-preserved c =
    let l = c.loop-build in
    builds_next c.all-all.result.now l.build-index c.build-item.result l.found c.add_build_file.new.found c.loop-build-test.true c.build-item.is l.invariant c.in_ok-add_build_file.ensures

pub returns : goal.returns
returns c =
    let l = c.loop-build in
    l.invariant ∙ ap (λ bs. with_labels [] (build_labels bs)) (take_all l.build-index c.all-all.result.now c.loop-build-test.false ∙ c.all-all.ensures.value)
