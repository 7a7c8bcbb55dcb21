-- Numbers, truth values, lists and objects as JSON has them (RFC 8259, sections 3 to 6), without white space.
use Rattle.std.specs.Prelude.{ℕ, List, [], ◌∷◌, ◌++◌, Bool, codes, if◌then◌else◌}
use Rattle.std.specs.List.{join_by}
use Rattle.bq_package_values.specs.JsonString.{json_string}

-- `true` or `false`
abbrev pub json_bool : Bool → List ℕ
json_bool b = if b then codes "true" else codes "false"

-- the byte between two items, and between two members
abbrev pub comma : List ℕ
comma = 44 ∷ []

-- `[a,b]`, where `item` gives the text of an item
unfoldable pub json_array : {X : Type 0} → (X → List ℕ) → List X → List ℕ
json_array item xs = 91 ∷ (join_by item comma xs ++ 93 ∷ [])

-- a member's key, with a colon
abbrev pub json_key : List ℕ → List ℕ
json_key key = json_string key ++ 58 ∷ []

-- a member of an object: its key, and the text of its value
pub record Member : Type 0 where
  pub key : List ℕ
  pub value : List ℕ

-- `"key":value`
abbrev pub member_text : Member → List ℕ
member_text m = json_key m.key ++ m.value

-- `{"key":value}`, with the members in this order
unfoldable pub json_object : List Member → List ℕ
json_object ms = 123 ∷ (join_by member_text comma ms ++ 125 ∷ [])
