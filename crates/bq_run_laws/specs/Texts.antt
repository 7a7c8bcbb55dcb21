-- How the kinds of targets and the values of attributes are written, by examples as Bazel writes them (Bazel query reference, "kind", "attr",
-- "--output label_kind"), by what one element more adds to a list, and by values that are written alike.
use Rattle.std.specs.Prelude.{◌≡◌, ℕ, pos, negsuc, true, false, List, [], ◌∷◌, ◌++◌, map, Some, codes}
use Rattle.std.specs.Option.{option_map}
use Rattle.bq_label.specs.Label.{LabelParts, label_at, full_form}
use Rattle.bq_value_datum.specs.Class.{Class}
use Rattle.bq_predeclared.specs.declared.attribute_type.AttributeType.{AttributeType}
use Rattle.bq_value_datum.specs.declared.attribute_value.AttributeValue.TheVariants as v
use Rattle.bq_package_target.specs.declared.target.TargetKind.TheVariants as k
use Rattle.bq_value_datum.specs.AttributeValue.{value_text, empty_value, default_text}
use Rattle.bq_query_function.specs.Texts.{kind_text}

-- ---- kinds

-- a rule of any class, and files and groups, whatever rule makes a file
pub record KindsInWords (class : Class) (rule : LabelParts) : Type 0 where
  pub library : kind_text (k.Rule (codes "cc_library") class) ≡ codes "cc_library rule"
  pub test : kind_text (k.Rule (codes "py_test") class) ≡ codes "py_test rule"
  pub source : kind_text k.Source ≡ codes "source file"
  pub generated : kind_text (k.Generated rule) ≡ codes "generated file"
  pub group : kind_text k.Group ≡ codes "package group"

-- ---- values

-- `//log:log.c`, a label of the main repository
abbrev pub own_label : LabelParts
own_label = label_at [] (codes "log") (codes "log.c")

-- `@zlib//:z`, a label of another one
abbrev pub other_label : LabelParts
other_label = label_at (codes "zlib") [] (codes "z")

-- strings without quotes, integers in decimal, 1 and 0 for booleans, labels with `//`
pub record SingleValues : Type 0 where
  pub string : value_text (v.String (codes "-O2 -g")) ≡ codes "-O2 -g"
  pub empty : value_text (v.String []) ≡ []
  pub int : value_text (v.Int (pos 250)) ≡ codes "250"
  pub negative : value_text (v.Int (negsuc 6)) ≡ codes "-7"
  pub yes : value_text (v.Bool true) ≡ codes "1"
  pub no : value_text (v.Bool false) ≡ codes "0"
  pub own : value_text (v.Label own_label) ≡ codes "//log:log.c"
  pub other : value_text (v.Label other_label) ≡ codes "@zlib//:z"

-- lists in brackets, with a comma and a space between elements
pub record ListValues : Type 0 where
  pub none : value_text (v.StringList []) ≡ codes "[]"
  pub one : value_text (v.StringList (codes "-g" ∷ [])) ≡ codes "[-g]"
  pub two : value_text (v.StringList (codes "-O2" ∷ codes "-g" ∷ [])) ≡ codes "[-O2, -g]"
  pub three : value_text (v.StringList (codes "a" ∷ codes "b" ∷ codes "c" ∷ [])) ≡ codes "[a, b, c]"
  pub labels : value_text (v.LabelList (own_label ∷ other_label ∷ [])) ≡ codes "[//log:log.c, @zlib//:z]"

-- with an element more a list goes on where it had its last bracket: with a comma, a space and the element
abbrev pub ListsGoOn : Type 0
ListsGoOn =
    (before : List (List ℕ)) (x y : List ℕ)
    → (inside : List ℕ)
    × (value_text (v.StringList (before ++ x ∷ [])) ≡ codes "[" ++ (inside ++ codes "]"))
    × (value_text (v.StringList (before ++ x ∷ y ∷ [])) ≡ codes "[" ++ (inside ++ (codes ", " ++ (y ++ codes "]"))))

-- labels are written as strings of their full forms are, and outputs as labels
pub record LabelsAsStrings (l : LabelParts) (ls : List LabelParts) : Type 0 where
  pub label : value_text (v.Label l) ≡ value_text (v.String (full_form l))
  pub labels : value_text (v.LabelList ls) ≡ value_text (v.StringList (map full_form ls))
  pub output : value_text (v.Output l) ≡ value_text (v.Label l)
  pub outputs : value_text (v.OutputList ls) ≡ value_text (v.LabelList ls)

-- ---- attributes without a value

-- one of each type is written as the empty value of the type
abbrev pub DefaultsAreEmptyValues : Type 0
DefaultsAreEmptyValues = (type : AttributeType) → default_text (Some type) ≡ option_map value_text (empty_value type)
