-- What the arguments of a call of a rule give (Bazel, Build Encyclopedia, "Common definitions"), in the order in which they are written.
-- An argument that is `None` gives nothing.
use Rattle.std.specs.Prelude.{ℕ, Bool, true, false, ◌++◌, List, [], ◌∷◌, Option, Some, None, Result, Ok, Err, codes, bytes_eq, if◌then◌else◌}
use Rattle.bq_base.specs.declared.fault.EvalFault.{EvalFault}
use Rattle.bq_base.specs.declared.fault.EvalFault.TheVariants as f
use Rattle.bq_label.specs.declared.packages.BuildFile.{BuildFile}
use Rattle.bq_label.specs.Label.{PackageParts, LabelParts}
use Rattle.bq_predeclared.specs.declared.attribute_type.AttributeType.{AttributeType}
use Rattle.bq_value_datum.specs.Class.{Class}
use Rattle.bq_value_datum.specs.declared.attribute_value.AttributeValue.{AttributeValue}
use Rattle.bq_value_datum.specs.declared.attribute_value.AttributeValue.TheVariants as a
use Rattle.bq_package_target.specs.Value.{attribute_type}
use Rattle.bq_value.specs.Datum.{Datum, none, string}
use Rattle.bq_value.specs.Cells.{StoreView}
use Rattle.bq_package_attributes.specs.declared.arguments.Given.{Given}
use Rattle.bq_package_values.specs.declared.label_texts.TextKind.TheVariants as k
use Rattle.bq_package_values.specs.Steps.{and_then}
use Rattle.bq_package_values.specs.Texts.{text_in}
use Rattle.bq_package_values.specs.LabelTexts.{label}
use Rattle.bq_package_values.specs.Values.{value_as}

-- before the first argument
abbrev pub nothing_given : Given
nothing_given = record { name = None; attributes = [] }

-- one attribute more
abbrev pub with_value : List ℕ → AttributeValue → Given → Given
with_value name value g = record g { attributes = g.attributes ++ record { name = name; value = value } ∷ [] }

-- the name of the target, which is an attribute too
abbrev pub with_label : List ℕ → LabelParts → Given → Given
with_label text l g = record { name = Some l; attributes = g.attributes ++ record { name = codes "name"; value = a.String text } ∷ [] }

-- `None`, which gives nothing
abbrev pub is_none : Datum → Bool
is_none none = true
is_none _ = false

-- the argument `name`: F73, F75, F37
unfoldable pub with_name : PackageParts → List BuildFile → Datum → Given → Result Given EvalFault
with_name own packages v g =
    if is_none v then Ok g else and_then (text_in f.AttributeType v) (λ text. and_then (label own packages k.Name text) (λ l. Ok (with_label text l g)))

-- any other argument: F71 where the rule has no such attribute, then the faults of its value
unfoldable pub with_attribute : PackageParts → List BuildFile → StoreView → Class → List ℕ → Datum → Given → Result Given EvalFault
with_attribute own packages store class name v g = elim (attribute_type class name) [
  | None ↦ Err f.NoAttribute
  | Some kind ↦ if is_none v then Ok g else and_then (value_as own packages store kind v) (λ value. Ok (with_value name value g))
]

-- the name of a keyword argument, which stands as the key of a dict
abbrev pub keyword : Datum → List ℕ
keyword (string name) = name
keyword _ = []

-- one more argument of a rule: its name, or an attribute
unfoldable pub with_argument : PackageParts → List BuildFile → StoreView → Class → Given → Datum × Datum → Result Given EvalFault
with_argument own packages store class g argument =
    if bytes_eq (keyword argument.0) (codes "name") then with_name own packages argument.1 g
    else with_attribute own packages store class (keyword argument.0) argument.1 g

-- the arguments, from the first on: the first faulty one decides
unfoldable pub with_arguments : PackageParts → List BuildFile → StoreView → Class → Given → List (Datum × Datum) → Result Given EvalFault
with_arguments own packages store class g [] = Ok g
with_arguments own packages store class g (argument ∷ arguments) =
    and_then (with_argument own packages store class g argument) (λ more. with_arguments own packages store class more arguments)
