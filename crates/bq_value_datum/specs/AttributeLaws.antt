-- Words of the laws.
use Rattle.std.specs.Prelude.{◌≡◌, ◌↔◌, true}
use Rattle.bq_value_datum.specs.AttributeSame.{same_attribute}
use Rattle.bq_value_datum.specs.declared.attribute.Attribute.{Attribute}

-- two attributes are the same exactly where they are equal
abbrev pub SameAttributesAreEqual : Type 0
SameAttributesAreEqual = (a b : Attribute) → (same_attribute a b ≡ true) ↔ (a ≡ b)
