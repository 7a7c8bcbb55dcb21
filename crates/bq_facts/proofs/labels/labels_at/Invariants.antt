use Rattle.std.proofs.Common.{◌≡◌, ◌++◌, drop}
use Rattle.bq_facts.specs.Labels.{labels_at}
use Rattle.bq_facts.proofs.labels.labels_at.Given as goal

abbrev pub invariant-loop-at : goal.invariant-loop-at
invariant-loop-at l = l.labels.items ++ labels_at l.targets (drop l.at-index l.numbers) ≡ labels_at l.targets l.numbers
