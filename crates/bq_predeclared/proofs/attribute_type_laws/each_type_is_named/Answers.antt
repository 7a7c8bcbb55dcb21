use Rattle.bq_predeclared.specs.AttributeType.{type_named-type_name}
use Rattle.bq_predeclared.proofs.attribute_type_laws.each_type_is_named.Goals as goal

pub returns : goal.returns
returns c = type_named-type_name
