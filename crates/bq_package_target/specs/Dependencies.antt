-- What a target depends on, in words of what is written (Bazel, "Dependencies").
use Rattle.std.specs.Prelude.{◌≡◌, List}
use Rattle.std.specs.List.{Contains}
use Rattle.bq_label.specs.Label.{LabelParts}
use Rattle.bq_value_datum.specs.declared.attribute_value.AttributeValue.{AttributeValue}
use Rattle.bq_value_datum.specs.declared.attribute_value.AttributeValue.TheVariants as v
use Rattle.bq_package_target.specs.declared.target.Target.{Target}
use Rattle.bq_package_target.specs.declared.target.TargetKind.TheVariants as k
use Rattle.bq_package_target.specs.declared.value.GivenAttribute.{GivenAttribute}

-- the label is the value, or among those of a list; the names of outputs and other texts are no labels
pub data HasLabel (l : LabelParts) (value : AttributeValue) : Type 0 where
  one : value ≡ v.Label l → HasLabel l value
  among : (ls : List LabelParts) → value ≡ v.LabelList ls → Contains ls l → HasLabel l value

-- an attribute of the target has this label
pub record WritesLabel (t : Target) (l : LabelParts) : Type 0 where
  pub attribute : GivenAttribute
  pub given : Contains t.attributes attribute
  pub label : HasLabel l attribute.value

-- a file that a rule makes depends on that rule alone; any other target on the labels that it writes
pub data Depends (t : Target) (l : LabelParts) : Type 0 where
  on_its_rule : t.kind ≡ k.Generated l → Depends t l
  on_what_it_writes : ((rule : LabelParts) → ¬ (t.kind ≡ k.Generated rule)) → WritesLabel t l → Depends t l
