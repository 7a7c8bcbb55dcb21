use Rattle.bq_value_datum.proofs.Elements.{elements_counted}
use Rattle.bq_value_datum.proofs.laws.elements_of_a_range.Goals as goal

pub returns : goal.returns
returns c = elements_counted
