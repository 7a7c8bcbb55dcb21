use Rattle.bq_predeclared.proofs.TypeFound.{no_other_named}
use Rattle.bq_predeclared.proofs.attribute_type_laws.no_other_type_is_named.Goals as goal

pub returns : goal.returns
returns c = no_other_named
