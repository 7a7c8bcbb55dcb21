use Rattle.bq_source.proofs.LiteralLaws.{value_literal, literal_value}
use Rattle.bq_source.proofs.string_literal.values_are_those_of_the_items.Goals as goal

pub returns-clause-found : goal.returns-clause-found
returns-clause-found c = value_literal

pub returns-clause-complete : goal.returns-clause-complete
returns-clause-complete c = literal_value
