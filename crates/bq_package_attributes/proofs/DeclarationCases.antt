-- Parts of definitions, as words that proofs name.
use Rattle.std.specs.Prelude.{Bool, Err, List, None, Ok, Option, Result, Some, false, if◌then◌else◌, not, ℕ, [], ◌∷◌}
use Rattle.bq_base.specs.declared.fault.EvalFault.{EvalFault}
use Rattle.bq_base.specs.declared.fault.EvalFault.TheVariants as f
use Rattle.bq_label.specs.Label.{PackageParts}
use Rattle.bq_label.specs.declared.packages.BuildFile.{BuildFile}
use Rattle.bq_package_values.specs.Steps.{and_then}
use Rattle.bq_package_values.specs.Values.{value_as}
use Rattle.bq_value.specs.Cells.{StoreView}
use Rattle.bq_value.specs.Datum.{Datum}
use Rattle.bq_predeclared.specs.declared.attribute_type.AttributeType.{AttributeType}
use Rattle.bq_package_attributes.specs.Arguments.{is_none, with_value}
use Rattle.bq_package_attributes.specs.declared.arguments.Given.{Given}
use Rattle.bq_value_datum.specs.AttributeValue.{names_outputs}
use Rattle.bq_value_datum.specs.declared.attribute_value.AttributeValue.{AttributeValue}
use Rattle.bq_package_target.specs.declared.value.GivenAttribute.{GivenAttribute}

-- an argument was given, and not `None`
abbrev pub is_value : Option Datum → Bool
is_value o = elim o [ None ↦ false | Some v ↦ not (is_none v) ]

-- an attribute takes its value, by its type; `None` leaves it out
abbrev pub with_attribute_by : PackageParts → List BuildFile → StoreView → Option AttributeType → List ℕ → Datum → Given → Result Given EvalFault
with_attribute_by own packages store o name v g = elim o [
  | None ↦ Err f.NoAttribute
  | Some kind ↦ if is_none v then Ok g else and_then (value_as own packages store kind v) (λ value. Ok (with_value name value g))
]

-- the default of an attribute that was not given
abbrev pub default_by : Bool → List ℕ → Option AttributeValue → List GivenAttribute
default_by given name o = if given then [] else elim o [ None ↦ [] | Some v ↦ if names_outputs v then [] else record { name = name; value = v } ∷ [] ]
