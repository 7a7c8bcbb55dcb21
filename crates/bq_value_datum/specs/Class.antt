-- The attributes that a rule has of its own, by name.
use Rattle.std.specs.Prelude.{ℕ, List, [], ◌∷◌, ◌++◌, Bool, Option, Some, None, is_some, bytes_eq, if◌then◌else◌}
use Rattle.std.specs.Map.{lookup}
use Rattle.bq_value_datum.specs.declared.attribute.Attribute.{Attribute}

-- attributes with their names, in order
abbrev pub Class : Type 0
Class = List (List ℕ × Attribute)

-- a class declares an attribute
abbrev pub has_attribute : Class → List ℕ → Bool
has_attribute class name = is_some (lookup (bytes_eq name) class)

-- the attribute as the last, where there is none of its name
unfoldable pub with_attribute : Class → List ℕ → Attribute → Class
with_attribute class name attribute = if has_attribute class name then class else class ++ (name, attribute) ∷ []

-- the attribute appended; `None` if there is one of its name
unfoldable pub extended : Class → List ℕ → Attribute → Option Class
extended class name attribute = if has_attribute class name then None else Some (class ++ (name, attribute) ∷ [])
