use Rattle.bq_source.proofs.NumberLaws.{found, complete}
use Rattle.bq_source.proofs.number.values_are_those_of_the_digits.Goals as goal

pub returns-clause-found : goal.returns-clause-found
returns-clause-found c = found

pub returns-clause-complete : goal.returns-clause-complete
returns-clause-complete c = complete
