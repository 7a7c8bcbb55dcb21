-- Members of objects.
use Rattle.std.specs.Prelude.{ℕ, List, ◌++◌}
use Rattle.std.specs.Fmt.{decimal}
use Rattle.std.specs.List.{flat_map}
use Rattle.bq_package_values.specs.JsonString.{json_string}
use Rattle.bq_package_values.specs.JsonParts.{Member, comma, member_text}

-- a member whose value is a string
abbrev pub string_member : List ℕ → List ℕ → Member
string_member key value = record { key = key; value = json_string value }

-- a member whose value is a number
abbrev pub number_member : List ℕ → ℕ → Member
number_member key n = record { key = key; value = decimal n }

-- the members after the first, each after a comma
abbrev pub further_members : List Member → List ℕ
further_members ms = flat_map (λ m. comma ++ member_text m) ms
