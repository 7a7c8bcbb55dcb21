use Rattle.std.proofs.Common.{◌≡◌, map, take}
use Rattle.bq_label.specs.Label.{label_in}
use Rattle.bq_package_values.proofs.label_texts.own_labels.Given as goal

abbrev pub invariant-loop-name : goal.invariant-loop-name
invariant-loop-name l = l.labels.items ≡ map (label_in l.own) (take l.name-index l.names)
