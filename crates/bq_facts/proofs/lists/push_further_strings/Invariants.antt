use Rattle.std.proofs.Common.{◌≡◌, ◌++◌, drop}
use Rattle.std.specs.List.{flat_map}
use Rattle.bq_package_values.specs.JsonParts.{comma}
use Rattle.bq_package_values.specs.JsonString.{json_string}
use Rattle.bq_facts.proofs.lists.push_further_strings.Given as goal

abbrev pub invariant-loop-string : goal.invariant-loop-string
invariant-loop-string l = l.text ++ flat_map (λ x. comma ++ json_string x) (drop l.string-index l.strings) ≡ l.initial.text ++ flat_map (λ x. comma ++ json_string x) l.strings
