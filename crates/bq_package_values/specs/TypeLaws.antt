-- Words of the laws.
use Rattle.std.specs.Prelude.{◌≡◌, ◌↔◌, List, Ok, Err}
use Rattle.bq_base.specs.declared.fault.EvalFault.{EvalFault}
use Rattle.bq_label.specs.declared.packages.BuildFile.{BuildFile}
use Rattle.bq_label.specs.Label.{PackageParts}
use Rattle.bq_predeclared.specs.declared.attribute_type.AttributeType.{AttributeType}
use Rattle.bq_value_datum.specs.declared.attribute_value.AttributeValue.{AttributeValue}
use Rattle.bq_value.specs.Datum.{Datum}
use Rattle.bq_value.specs.Cells.{StoreView}
use Rattle.bq_package_values.specs.Taken.{IsTakenAs, IsRefusedFor}
use Rattle.bq_package_values.specs.Values.{value_as}

-- an attribute takes just the values of its type, and each as what it is
abbrev pub EachTypeTakesItsValues : Type 0
EachTypeTakesItsValues =
    (own : PackageParts) (packages : List BuildFile) (store : StoreView) (type : AttributeType) (v : Datum) (w : AttributeValue)
    → (value_as own packages store type v ≡ Ok w) ↔ IsTakenAs own packages store v w type

-- it refuses the others, each for what is wrong with it
abbrev pub EachTypeRefusesOtherValues : Type 0
EachTypeRefusesOtherValues =
    (own : PackageParts) (packages : List BuildFile) (store : StoreView) (type : AttributeType) (v : Datum) (why : EvalFault)
    → (value_as own packages store type v ≡ Err why) ↔ IsRefusedFor own packages store v type why
