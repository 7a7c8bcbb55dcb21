-- The typed value that a value is in a package (Bazel, "attr"), with its labels read there: the faults of its labels come after those of
-- its type.
use Rattle.std.specs.Prelude.{◌≡◌, List, Result, Ok}
use Rattle.bq_base.specs.declared.fault.EvalFault.{EvalFault}
use Rattle.bq_base.specs.declared.fault.EvalFault.TheVariants as f
use Rattle.bq_label.specs.declared.packages.BuildFile.{BuildFile}
use Rattle.bq_label.specs.Label.{PackageParts, LabelParts}
use Rattle.bq_predeclared.specs.declared.attribute_type.AttributeType.{AttributeType}
use Rattle.bq_predeclared.specs.declared.attribute_type.AttributeType.TheVariants as t
use Rattle.bq_value_datum.specs.declared.attribute_value.AttributeValue.{AttributeValue}
use Rattle.bq_value_datum.specs.declared.attribute_value.AttributeValue.TheVariants as a
use Rattle.bq_value.specs.Datum.{Datum}
use Rattle.bq_value.specs.Cells.{StoreView}
use Rattle.bq_package_values.specs.declared.label_texts.TextKind.TheVariants as k
use Rattle.bq_package_values.specs.declared.written.Written.{Written}
use Rattle.bq_package_values.specs.declared.written.Written.TheVariants as w
use Rattle.bq_package_values.specs.Steps.{and_then}
use Rattle.bq_package_values.specs.LabelTexts.{label, labels}
use Rattle.bq_package_values.specs.Types.{written_as}

-- what is written, with its labels read in a package among others: F78 or F75, then F37
unfoldable pub typed : PackageParts → List BuildFile → Written → Result AttributeValue EvalFault
typed own packages (w.Value v) = Ok v
typed own packages (w.Label text) = and_then (label own packages k.Label text) (λ l. Ok (a.Label l))
typed own packages (w.LabelList texts) = and_then (labels own packages k.Label texts) (λ ls. Ok (a.LabelList ls))
typed own packages (w.Output text) = and_then (label own packages k.Output text) (λ l. Ok (a.Output l))
typed own packages (w.OutputList texts) = and_then (labels own packages k.Output texts) (λ ls. Ok (a.OutputList ls))

-- the value of an attribute of a type that a call gives: F73 where it is of another type
unfoldable pub value_as : PackageParts → List BuildFile → StoreView → AttributeType → Datum → Result AttributeValue EvalFault
value_as own packages store type v = and_then (written_as f.AttributeType store type v) (typed own packages)

-- these are the labels that the value is as a list of labels
abbrev pub AreLabelsOf : PackageParts → List BuildFile → StoreView → Datum → List LabelParts → Type 0
AreLabelsOf own packages store v ls = value_as own packages store t.LabelList v ≡ Ok (a.LabelList ls)
