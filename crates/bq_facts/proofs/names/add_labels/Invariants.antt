use Rattle.std.proofs.Common.{◌≡◌, ◌++◌, drop}
use Rattle.bq_facts.proofs.names.add_labels.Given as goal

abbrev pub invariant-loop-label : goal.invariant-loop-label
invariant-loop-label l = l.all.items ++ drop l.label-index l.labels ≡ l.initial.all.items ++ l.labels
