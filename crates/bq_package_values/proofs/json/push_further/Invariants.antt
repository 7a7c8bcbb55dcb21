use Rattle.std.proofs.Common.{◌≡◌, ◌++◌, drop}
use Rattle.std.specs.List.{flat_map}
use Rattle.bq_package_values.specs.JsonParts.{comma}
use Rattle.bq_package_values.specs.Json.{json_label}
use Rattle.bq_package_values.proofs.json.push_further.Given as goal

abbrev pub invariant-loop-label : goal.invariant-loop-label
invariant-loop-label l = l.text.items ++ flat_map (λ x. comma ++ json_label x) (drop l.label-index l.labels) ≡ l.initial.text.items ++ flat_map (λ x. comma ++ json_label x) l.labels
