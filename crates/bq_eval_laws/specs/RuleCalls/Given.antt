-- What a call gives, in words of its arguments.
use Rattle.std.specs.Prelude.{◌≡◌, ◌≢◌, ℕ, true, List}
use Rattle.std.specs.List.{Contains}
use Rattle.bq_value_datum.specs.Class.{Class}
use Rattle.bq_value_datum.specs.declared.attribute.Attribute.{Attribute}
use Rattle.bq_value.specs.Datum.{Datum, none}

-- one of these arguments has this name, and its value isn't `None`
pub record IsGivenBy (named : List (List ℕ × Datum)) (name : List ℕ) : Type 0 where
  pub value : Datum
  pub written : Contains named (name, value)
  pub some : value ≢ none

-- one of these arguments gives each attribute that has to be given
abbrev pub EachMandatoryIsGiven : Class → List (List ℕ × Datum) → Type 0
EachMandatoryIsGiven class named = (e : List ℕ × Attribute) → Contains class e → e.1.is_mandatory ≡ true → IsGivenBy named e.0
