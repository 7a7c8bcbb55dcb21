-- The attributes that a target keeps, as an object.
use Rattle.std.specs.Prelude.{ℕ, List, map}
use Rattle.bq_package_values.specs.JsonParts.{Member, json_object}
use Rattle.bq_package_target.specs.declared.value.GivenAttribute.{GivenAttribute}
use Rattle.bq_package_values.specs.Types.{json_value}

-- an attribute's name as the key, and its value as JSON
abbrev pub attribute_member : GivenAttribute → Member
attribute_member a = record { key = a.name; value = json_value a.value }

-- the text of the object of the attributes, in their order
abbrev pub json_attributes : List GivenAttribute → List ℕ
json_attributes given = json_object (map attribute_member given)
