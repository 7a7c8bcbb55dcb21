use Rattle.std.proofs.Common.{◌≡◌, [], take}
use Rattle.bq_label_set.specs.Labels.{with_labels}
use Rattle.bq_load_discover.specs.Modules.{build_labels}
use Rattle.bq_load_discover.proofs.exploration.build_labels.Given as goal

abbrev pub invariant-loop-build : goal.invariant-loop-build
invariant-loop-build l = l.found ≡ with_labels [] (build_labels (take l.build-index l.all))
