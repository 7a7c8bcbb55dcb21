use Rattle.std.proofs.Common.{◌≡◌, drop}
use Rattle.bq_load_reload.specs.Renewal.{have_same_labels}
use Rattle.bq_load_reload.proofs.renewal.have_same_labels.Given as goal

abbrev pub invariant-loop-label : goal.invariant-loop-label
invariant-loop-label l = have_same_labels (drop l.label-index l.labels) l.left ≡ have_same_labels l.labels l.others
