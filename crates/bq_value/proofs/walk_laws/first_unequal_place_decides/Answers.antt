use Rattle.bq_value.proofs.Orders.{tuples_by_place, lists_by_place}
use Rattle.bq_value.proofs.walk_laws.first_unequal_place_decides.Goals as goal

pub returns-clause-tuples : goal.returns-clause-tuples
returns-clause-tuples c = tuples_by_place

pub returns-clause-lists : goal.returns-clause-lists
returns-clause-lists c = lists_by_place
