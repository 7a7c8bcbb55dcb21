use Rattle.std.proofs.Common.{◌≡◌, ◌++◌, drop}
use Rattle.std.specs.List.{flat_map}
use Rattle.bq_package_values.specs.JsonParts.{comma}
use Rattle.bq_package_values.specs.Json.{json_label}
use Rattle.bq_facts.proofs.lists.push_further_labels.Given as goal

abbrev pub invariant-loop-label : goal.invariant-loop-label
invariant-loop-label l = l.text ++ flat_map (λ x. comma ++ json_label x) (drop l.label-index l.labels) ≡ l.initial.text ++ flat_map (λ x. comma ++ json_label x) l.labels
