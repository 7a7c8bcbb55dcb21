use Rattle.std.proofs.Common.{◌≡◌, ◌++◌, drop, map}
use Rattle.bq_label.specs.Label.{full_form}
use Rattle.bq_value_datum.specs.ListText.{further}
use Rattle.bq_value_datum.proofs.list_text.write_further_labels.Given as goal

abbrev pub invariant-loop-label : goal.invariant-loop-label
invariant-loop-label l = l.text.items ++ further (map full_form (drop l.label-index l.labels)) ≡ l.initial.text.items ++ further (map full_form l.labels)
