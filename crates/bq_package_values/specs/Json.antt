-- Strings and labels as JSON values: labels in full.
use Rattle.std.specs.Prelude.{ℕ, List}
use Rattle.bq_label.specs.Label.{LabelParts, full_form}
use Rattle.bq_package_values.specs.JsonValue as json
use Rattle.bq_package_values.specs.JsonValue.{Json, items_of, value_text}
use Rattle.bq_package_values.specs.JsonString.{json_string}

-- an array of these strings, in their order
abbrev pub strings_json : List (List ℕ) → Json
strings_json ss = json.array (items_of json.string ss)

-- a label in full, as a string
abbrev pub label_json : LabelParts → Json
label_json l = json.string (full_form l)

-- an array of labels in full, in their order
abbrev pub labels_json : List LabelParts → Json
labels_json ls = json.array (items_of label_json ls)

-- their texts
abbrev pub json_strings : List (List ℕ) → List ℕ
json_strings ss = value_text (strings_json ss)

-- the text of a label in full, between quotes
abbrev pub json_label : LabelParts → List ℕ
json_label l = json_string (full_form l)

-- the text of the array of labels in full, without white space
abbrev pub json_labels : List LabelParts → List ℕ
json_labels ls = value_text (labels_json ls)
