-- The labels of other targets in attributes, and the files that they name as outputs; and the types of the attributes of a rule.
use Rattle.std.specs.Prelude.{ℕ, List, Option, Some, None, bytes_eq}
use Rattle.std.specs.Option.{option_map}
use Rattle.std.specs.List.{flat_map}
use Rattle.std.specs.Map.{lookup}
use Rattle.bq_label.specs.Label.{LabelParts}
use Rattle.bq_predeclared.specs.declared.attribute_type.AttributeType.{AttributeType}
use Rattle.bq_value_datum.specs.CommonAttributes.{common_attribute}
use Rattle.bq_value_datum.specs.Class.{Class}
use Rattle.bq_value_datum.specs.AttributeValue.{labels_of, outputs_of}
use Rattle.bq_package_target.specs.declared.value.GivenAttribute.{GivenAttribute}

-- the targets that attributes name, in order
abbrev pub labels_in : List GivenAttribute → List LabelParts
labels_in given = flat_map (λ a. labels_of a.value) given

-- the files that attributes name as outputs, in order
abbrev pub outputs_in : List GivenAttribute → List LabelParts
outputs_in given = flat_map (λ a. outputs_of a.value) given

-- the type of an attribute of a rule: one that all rules have, or one of its own
unfoldable pub attribute_type : Class → List ℕ → Option AttributeType
attribute_type class name = elim (common_attribute name) [ Some kind ↦ Some kind | None ↦ option_map (λ a. a.kind) (lookup (bytes_eq name) class) ]
