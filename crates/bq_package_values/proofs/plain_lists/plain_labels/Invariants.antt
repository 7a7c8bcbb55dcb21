use Rattle.std.proofs.Common.{◌≡◌, map, take}
use Rattle.bq_package_values.specs.PlainLists.{own_label}
use Rattle.bq_package_values.proofs.plain_lists.plain_labels.Given as goal

abbrev pub invariant-loop-value : goal.invariant-loop-value
invariant-loop-value l = l.labels.items ≡ map (own_label l.own) (take l.value-index l.values)
