use Rattle.std.proofs.Common.{◌≡◌, ◌++◌, drop}
use Rattle.std.specs.List.{flat_map}
use Rattle.bq_package_values.specs.JsonString.{json_string}
use Rattle.bq_package_values.specs.JsonParts.{comma}
use Rattle.bq_package_values.proofs.json_parts.push_further.Given as goal

abbrev pub invariant-loop-string : goal.invariant-loop-string
invariant-loop-string l = l.text.items ++ flat_map (λ s. comma ++ json_string s) (drop l.string-index l.strings) ≡ l.initial.text.items ++ flat_map (λ s. comma ++ json_string s) l.strings
