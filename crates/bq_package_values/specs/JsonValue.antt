-- JSON values (RFC 8259, section 3), of which strings are bytes and numbers are integers, and their texts without white space.
use Rattle.std.specs.Prelude.{ℕ, ℤ, Bool, List, [], ◌∷◌, ◌++◌}
use Rattle.std.specs.Fmt.{signed_decimal}
use Rattle.bq_package_values.specs.JsonString.{json_string}
use Rattle.bq_package_values.specs.JsonParts.{Member, json_bool}

mutual
  pub data Json : Type 0 where
    string : List ℕ → Json
    number : ℤ → Json
    truth : Bool → Json
    array : Items → Json
    object : Fields → Json

  pub data Items : Type 0 where
    no_items : Items
    item : Json → Items → Items

  -- the members of an object, in their order
  pub data Fields : Type 0 where
    no_fields : Fields
    field : List ℕ → Json → Fields → Fields

abbrev mutual
  pub value_text : Json → List ℕ
  value_text (string bs) = json_string bs
  value_text (number n) = signed_decimal n
  value_text (truth b) = json_bool b
  value_text (array xs) = 91 ∷ items_text xs
  value_text (object fs) = 123 ∷ fields_text fs

  -- what follows `[`
  pub items_text : Items → List ℕ
  items_text no_items = 93 ∷ []
  items_text (item x xs) = value_text x ++ more_items xs

  -- what follows an item
  pub more_items : Items → List ℕ
  more_items no_items = 93 ∷ []
  more_items (item x xs) = 44 ∷ (value_text x ++ more_items xs)

  -- what follows `{`
  pub fields_text : Fields → List ℕ
  fields_text no_fields = 125 ∷ []
  fields_text (field key x fs) = json_string key ++ (58 ∷ (value_text x ++ more_fields fs))

  -- what follows a member
  pub more_fields : Fields → List ℕ
  more_fields no_fields = 125 ∷ []
  more_fields (field key x fs) = 44 ∷ (json_string key ++ (58 ∷ (value_text x ++ more_fields fs)))

-- ---- of lists

-- a value for each of these
abbrev pub items_of : {X : Type 0} → (X → Json) → List X → Items
items_of f [] = no_items
items_of f (x ∷ xs) = item (f x) (items_of f xs)

-- a key, and its value
pub record Named : Type 0 where
  pub key : List ℕ
  pub value : Json

-- the members of an object: these keys with their values, in their order
abbrev pub fields_of : List Named → Fields
fields_of [] = no_fields
fields_of (n ∷ ns) = field n.key n.value (fields_of ns)

-- the member of an object that this is
abbrev pub member_of : Named → Member
member_of n = record { key = n.key; value = value_text n.value }
