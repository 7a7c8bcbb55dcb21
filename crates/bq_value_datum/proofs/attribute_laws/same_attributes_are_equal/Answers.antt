use Rattle.bq_value_datum.specs.EqualAttributes.{same_attributes}
use Rattle.bq_value_datum.proofs.attribute_laws.same_attributes_are_equal.Goals as goal

pub returns : goal.returns
returns c = same_attributes
