use Rattle.bq_source.proofs.LiteralLaws.{found_open, open_found}
use Rattle.bq_source.proofs.string_literal.open_literals_have_no_end.Goals as goal

pub returns-clause-found : goal.returns-clause-found
returns-clause-found c = found_open

pub returns-clause-complete : goal.returns-clause-complete
returns-clause-complete c = open_found
