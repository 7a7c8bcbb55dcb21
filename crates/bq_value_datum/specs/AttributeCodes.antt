-- That attributes can be told apart: codes of them, and of rule classes.
use Rattle.std.specs.Prelude.{ℕ, Bool, List, Option, refl}
use Rattle.std.specs.Coded.{Coded, code_by, coded_bool, coded_list, coded_option, coded×}
use Rattle.bq_predeclared.specs.AttributeType.{coded_type}
pub use Rattle.bq_predeclared.specs.AttributeType.{type_number, type_at, type_at-type_number}
use Rattle.bq_predeclared.specs.declared.attribute_type.AttributeType.{AttributeType}
use Rattle.bq_value_datum.specs.declared.attribute.Attribute.{Attribute}
use Rattle.bq_value_datum.specs.declared.attribute_value.AttributeValue.{AttributeValue}
use Rattle.bq_value_datum.specs.AttributeValue.{coded_text, coded_value}

-- a code of each attribute, by its type, whether it is mandatory, and its default; no other attribute has it
abbrev pub coded_attribute : Coded Attribute
coded_attribute =
    code_by (AttributeType × (Bool × Option AttributeValue)) (coded× coded_type (coded× coded_bool (coded_option coded_value)))
    (λ a. (a.kind, (a.is_mandatory, a.default))) (λ p. record { kind = p.0; is_mandatory = p.1.0; default = p.1.1 }) (λ _. refl)

-- a code of each rule class, which no other class has
abbrev pub coded_class : Coded (List (List ℕ × Attribute))
coded_class = coded_list (coded× coded_text coded_attribute)
