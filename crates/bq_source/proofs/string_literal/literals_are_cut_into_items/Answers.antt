use Rattle.bq_source.proofs.LiteralLaws.{found_literal, literal_found}
use Rattle.bq_source.proofs.string_literal.literals_are_cut_into_items.Goals as goal

pub returns-clause-found : goal.returns-clause-found
returns-clause-found c = found_literal

pub returns-clause-complete : goal.returns-clause-complete
returns-clause-complete c = literal_found
