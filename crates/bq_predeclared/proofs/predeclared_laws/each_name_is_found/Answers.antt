use Rattle.bq_predeclared.proofs.NameFound.{each_name}
use Rattle.bq_predeclared.proofs.predeclared_laws.each_name_is_found.Goals as goal

pub returns : goal.returns
returns c = each_name
