use Rattle.bq_predeclared.proofs.AttrFound.{each_attr_function}
use Rattle.bq_predeclared.proofs.predeclared_laws.each_attr_function_is_found.Goals as goal

pub returns : goal.returns
returns c = each_attr_function
