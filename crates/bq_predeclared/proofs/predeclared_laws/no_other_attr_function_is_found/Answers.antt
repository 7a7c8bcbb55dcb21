use Rattle.bq_predeclared.proofs.AttrFound.{no_other_attr_function}
use Rattle.bq_predeclared.proofs.predeclared_laws.no_other_attr_function_is_found.Goals as goal

pub returns : goal.returns
returns c = no_other_attr_function
