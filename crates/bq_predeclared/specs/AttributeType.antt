-- The types of attributes (Bazel, "attr"), by their words. What holds of all of them is proved case by case, and a new type has a case
-- without a line of its own.
use Rattle.std.specs.Prelude.{◌≡◌, ℕ, zero, suc, Bool, true, false, List, [], ◌∷◌, Option, Some, None, codes, bytes_eq, refl}
use Rattle.std.specs.List.{find}
use Rattle.std.proofs.Common.{sym, ◌∙◌, ap}
use Rattle.std.specs.Coded.{Coded, code_by, coded_ℕ}
use Rattle.bq_predeclared.specs.declared.attribute_type.AttributeType.{AttributeType}
use Rattle.bq_predeclared.specs.declared.attribute_type.AttributeType.TheVariants as t

-- the types, each at the place of its number
abbrev pub types : List AttributeType
types = t.String ∷ t.Int ∷ t.Bool ∷ t.StringList ∷ t.Label ∷ t.LabelList ∷ t.Output ∷ t.OutputList ∷ []

-- its name, in a schema and after `attr.`
abbrev pub type_name : AttributeType → List ℕ
type_name t.String = codes "string"
type_name t.Int = codes "int"
type_name t.Bool = codes "bool"
type_name t.StringList = codes "string_list"
type_name t.Label = codes "label"
type_name t.LabelList = codes "label_list"
type_name t.Output = codes "output"
type_name t.OutputList = codes "output_list"

-- its number, which no other type has
abbrev pub type_number : AttributeType → ℕ
type_number t.String = 0
type_number t.Int = 1
type_number t.Bool = 2
type_number t.StringList = 3
type_number t.Label = 4
type_number t.LabelList = 5
type_number t.Output = 6
type_number t.OutputList = 7

-- `attr.NAME` declares attributes of the type (ours: the files that a rule makes are declared in a schema alone)
abbrev pub has_function : AttributeType → Bool
has_function t.Output = false
has_function t.OutputList = false
has_function _ = true

-- the type of this name
unfoldable pub type_named : List ℕ → Option AttributeType
type_named name = find (λ k. bytes_eq name (type_name k)) types

-- ---- types can be told apart

-- the type at place n of these types, counted from 0; `String` past the last
abbrev pub type_from : List AttributeType → ℕ → AttributeType
type_from [] n = t.String
type_from (k ∷ ks) zero = k
type_from (k ∷ ks) (suc n) = type_from ks n

-- the type of this number; `String` where no type has it
abbrev pub type_at : ℕ → AttributeType
type_at n = type_from types n

-- the type of a type's number is the type itself
pub type_at-type_number : (k : AttributeType) → type_at (type_number k) ≡ k
type_at-type_number t.String = refl
type_at-type_number _ = refl

-- types are told apart by their numbers
abbrev pub coded_type : Coded AttributeType
coded_type = code_by ℕ coded_ℕ type_number type_at type_at-type_number

-- the type of a type's name is the type itself
pub type_named-type_name : (k : AttributeType) → type_named (type_name k) ≡ Some k
unfolding type_named
type_named-type_name t.String = refl
type_named-type_name _ = refl

abbrev type_in : Option AttributeType → AttributeType
type_in None = t.String
type_in (Some k) = k

-- no two types have one name
pub names_differ : (k m : AttributeType) → type_name k ≡ type_name m → k ≡ m
names_differ k m e = ap type_in (sym (type_named-type_name k) ∙ (ap type_named e ∙ type_named-type_name m))
