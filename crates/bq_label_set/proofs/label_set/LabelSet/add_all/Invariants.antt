use Rattle.std.proofs.Common.{◌≡◌, drop}
use Rattle.bq_label_set.specs.Labels.{with_labels}
use Rattle.bq_label_set.proofs.label_set.LabelSet.add_all.Given as goal

abbrev pub invariant-loop-label : goal.invariant-loop-label
invariant-loop-label l = with_labels l.self (drop l.label-index l.labels) ≡ with_labels l.fn.self l.labels
