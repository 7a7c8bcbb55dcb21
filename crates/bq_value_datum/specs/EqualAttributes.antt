-- Attributes that are the same, and equal ones.
use Rattle.std.proofs.Common.{◌≡◌, ◌∙◌, true, Option, Some, None, refl, sym, ap}
use Rattle.bq_predeclared.specs.AttributeType.{type_name, names_differ}
use Rattle.bq_value_datum.specs.AttributeLaws.{SameAttributesAreEqual}
use Rattle.bq_value_datum.specs.AttributeSame.{same_default, same_attribute}
use Rattle.bq_value_datum.specs.AttributeValue.{both, all_true, text_true, text_refl, bool_true, bool_refl, value_true, value_refl}
use Rattle.bq_value_datum.specs.declared.attribute.Attribute.{Attribute}
use Rattle.bq_value_datum.specs.declared.attribute_value.AttributeValue.{AttributeValue}

default_true : (a b : Option AttributeValue) → same_default a b ≡ true → a ≡ b
default_true None None h = refl
default_true (Some a) (Some b) h = ap Some (value_true a b h)
default_true None (Some b) h = absurd (cc)
default_true (Some a) None h = absurd (cc)

default_refl : (a : Option AttributeValue) → same_default a a ≡ true
default_refl None = refl
default_refl (Some a) = value_refl a

-- attributes that are the same are one
pub same_attribute_true : (a b : Attribute) → same_attribute a b ≡ true → a ≡ b
same_attribute_true a b h =
    let p = both _ _ h in
    let q = both _ _ p.0 in
    let kind : a.kind ≡ b.kind = names_differ a.kind b.kind (text_true (type_name a.kind) (type_name b.kind) q.0) in
    let mandatory : a.is_mandatory ≡ b.is_mandatory = bool_true a.is_mandatory b.is_mandatory q.1 in
    let default : a.default ≡ b.default = default_true a.default b.default p.1 in
    λ i. record { kind = kind i; is_mandatory = mandatory i; default = default i }

-- an attribute is the same as itself
pub same_attribute_refl : (a : Attribute) → same_attribute a a ≡ true
same_attribute_refl a = all_true (all_true (text_refl (type_name a.kind)) (bool_refl a.is_mandatory)) (default_refl a.default)

-- two attributes are the same exactly where they are equal
pub same_attributes : SameAttributesAreEqual
same_attributes a b = (same_attribute_true a b, λ e. ap (same_attribute a) (sym e) ∙ same_attribute_refl a)
