use Rattle.bq_predeclared.proofs.NameFound.{nothing_else}
use Rattle.bq_predeclared.proofs.predeclared_laws.nothing_else_is_found.Goals as goal

pub returns : goal.returns
returns c = nothing_else
