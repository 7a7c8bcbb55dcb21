-- When two attributes are the same: of one type, with one default, and both mandatory or neither.
use Rattle.std.specs.Prelude.{Bool, true, false, ◌&&◌, Option, Some, None, bytes_eq}
use Rattle.bq_predeclared.specs.AttributeType.{type_name}
use Rattle.bq_value_datum.specs.declared.attribute.Attribute.{Attribute}
use Rattle.bq_value_datum.specs.declared.attribute_value.AttributeValue.{AttributeValue}
use Rattle.bq_value_datum.specs.AttributeValue.{same_bool, same_value}

-- the defaults are the same value, or both are missing
abbrev pub same_default : Option AttributeValue → Option AttributeValue → Bool
same_default None None = true
same_default (Some a) (Some b) = same_value a b
same_default _ _ = false

-- no two types have one name
abbrev pub same_attribute : Attribute → Attribute → Bool
same_attribute a b = bytes_eq (type_name a.kind) (type_name b.kind) && same_bool a.is_mandatory b.is_mandatory && same_default a.default b.default
