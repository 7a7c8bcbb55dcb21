use Rattle.std.proofs.Common.{◌≡◌, [], take}
use Rattle.bq_label_set.specs.Labels.{with_labels}
use Rattle.bq_load_discover.specs.Module.{labels_of, AreValid}
use Rattle.bq_load_discover.proofs.order.labels.Given as goal

abbrev pub invariant-loop-each : goal.invariant-loop-each
invariant-loop-each l = record {
  added : l.labels ≡ with_labels [] (labels_of (take l.each-index l.modules));
  valid : AreValid (take l.each-index l.modules);
}
