-- Lists of values that are plain names.
use Rattle.std.specs.Prelude.{ℕ, Bool, false, List, []}
use Rattle.bq_label.specs.Label.{PackageParts, LabelParts, label_in}
use Rattle.bq_value.specs.Datum.{Datum, string}
use Rattle.bq_package_values.specs.PlainNames.{is_plain_name}

-- the value is a plain name
abbrev pub is_plain : Datum → Bool
is_plain (string name) = is_plain_name name
is_plain _ = false

-- the text that a string is
abbrev pub text : Datum → List ℕ
text (string t) = t
text _ = []

-- the label of the package with the name that a string is
abbrev pub own_label : PackageParts → Datum → LabelParts
own_label own v = label_in own (text v)
