-- How a text reads as a value, from its front: the grammar of RFC 8259, sections 2 to 6, without white space, fractions, exponents and `null`,
-- none of which is written here. Each relation has the text that is left last.
use Rattle.std.specs.Prelude.{◌≡◌, ◌<◌, ◌^◌, ◌==◌, ◌||◌, ℕ, ℤ, Bool, true, ⊤, List, [], ◌∷◌, ◌++◌, Some, take, drop}
use Rattle.std.specs.Fmt.{signed_decimal}
use lib.Signed.{mag}
use Rattle.std.specs.Int.{is_in_range}
use Rattle.std.specs.List.{prefix_len}
use Rattle.bq_package_values.specs.JsonValue.{Json, string, number, truth, array, object, Items, no_items, item, Fields, no_fields, field}
use Rattle.bq_package_values.specs.CodePoints.{AreBytes}
use Rattle.bq_package_values.specs.JsonReading.{reads_string}
use Rattle.bq_package_values.specs.JsonParts.{json_bool}

-- a digit or a minus
abbrev pub is_of_number : ℕ → Bool
is_of_number b = is_in_range 48 57 b || b == 45

-- a number goes on as long as it can
abbrev pub number_len : List ℕ → ℕ
number_len text = prefix_len is_of_number text

-- a string, with its opening quote, stands at the front for these bytes
pub record StringAt (bs text rest : List ℕ) : Type 0 where
  pub after_quote : List ℕ
  pub reads : reads_string (34 ∷ after_quote) ≡ Some bs
  pub front : text ≡ 34 ∷ (after_quote ++ rest)

mutual
  pub data Reads : Json → List ℕ → List ℕ → Type 0 where
    of_string : {bs text rest : List ℕ} → StringAt bs text rest → Reads (string bs) text rest
    of_number : {n : ℤ} {b : ℕ} {bs text rest : List ℕ} → mag n < 2 ^ 63 → text ≡ b ∷ bs → is_of_number b ≡ true → take (number_len text) text ≡ signed_decimal n
        → rest ≡ drop (number_len text) text → Reads (number n) text rest
    of_truth : {b : Bool} {text rest : List ℕ} → text ≡ json_bool b ++ rest → Reads (truth b) text rest
    of_array : {xs : Items} {text inner rest : List ℕ} → text ≡ 91 ∷ inner → ReadsItems xs inner rest → Reads (array xs) text rest
    of_object : {fs : Fields} {text inner rest : List ℕ} → text ≡ 123 ∷ inner → ReadsFields fs inner rest → Reads (object fs) text rest

  -- after `[`
  pub data ReadsItems : Items → List ℕ → List ℕ → Type 0 where
    no_item : {text rest : List ℕ} → text ≡ 93 ∷ rest → ReadsItems no_items text rest
    first_item : {x : Json} {xs : Items} {text next rest : List ℕ} → Reads x text next → ReadsMoreItems xs next rest → ReadsItems (item x xs) text rest

  -- after an item
  pub data ReadsMoreItems : Items → List ℕ → List ℕ → Type 0 where
    last_item : {text rest : List ℕ} → text ≡ 93 ∷ rest → ReadsMoreItems no_items text rest
    next_item : {x : Json} {xs : Items} {text inner next rest : List ℕ} → text ≡ 44 ∷ inner → Reads x inner next → ReadsMoreItems xs next rest
        → ReadsMoreItems (item x xs) text rest

  -- after `{`
  pub data ReadsFields : Fields → List ℕ → List ℕ → Type 0 where
    no_field : {text rest : List ℕ} → text ≡ 125 ∷ rest → ReadsFields no_fields text rest
    first_field : {key : List ℕ} {x : Json} {fs : Fields} {text value next rest : List ℕ} → StringAt key text (58 ∷ value) → Reads x value next → ReadsMoreFields fs next rest
        → ReadsFields (field key x fs) text rest

  -- after a member
  pub data ReadsMoreFields : Fields → List ℕ → List ℕ → Type 0 where
    last_field : {text rest : List ℕ} → text ≡ 125 ∷ rest → ReadsMoreFields no_fields text rest
    next_field : {key : List ℕ} {x : Json} {fs : Fields} {text inner value next rest : List ℕ} → text ≡ 44 ∷ inner → StringAt key inner (58 ∷ value) → Reads x value next
        → ReadsMoreFields fs next rest → ReadsMoreFields (field key x fs) text rest

-- its strings are bytes, and its numbers fit 64 bits
abbrev mutual
  pub IsWritable : Json → Type 0
  IsWritable (string bs) = AreBytes bs
  IsWritable (number n) = mag n < 2 ^ 63
  IsWritable (truth b) = ⊤
  IsWritable (array xs) = ItemsAreWritable xs
  IsWritable (object fs) = FieldsAreWritable fs

  pub ItemsAreWritable : Items → Type 0
  ItemsAreWritable no_items = ⊤
  ItemsAreWritable (item x xs) = IsWritable x × ItemsAreWritable xs

  pub FieldsAreWritable : Fields → Type 0
  FieldsAreWritable no_fields = ⊤
  FieldsAreWritable (field key x fs) = AreBytes key × IsWritable x × FieldsAreWritable fs

-- no number goes on here
abbrev pub EndsNumber : List ℕ → Type 0
EndsNumber text = number_len text ≡ 0
