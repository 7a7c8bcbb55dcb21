-- Words of the laws.
use Rattle.std.specs.Prelude.{◌≡◌, ℕ, List, Some}
use Rattle.bq_predeclared.specs.AttributeType.{type_name, type_named}
use Rattle.bq_predeclared.specs.declared.attribute_type.AttributeType.{AttributeType}

-- each type is the one of its name
abbrev pub EachTypeIsNamed : Type 0
EachTypeIsNamed = (kind : AttributeType) → type_named (type_name kind) ≡ Some kind

-- and of no other
abbrev pub NoOtherTypeIsNamed : Type 0
NoOtherTypeIsNamed = (kind : AttributeType) (name : List ℕ) → type_named name ≡ Some kind → type_name kind ≡ name
