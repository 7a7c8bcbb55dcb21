use Rattle.bq_value.proofs.Orders.{bools_ordered, ints_ordered, strings_ordered}
use Rattle.bq_value.proofs.walk_laws.plain_values_have_an_order.Goals as goal

pub returns-clause-bools : goal.returns-clause-bools
returns-clause-bools c = bools_ordered

pub returns-clause-ints : goal.returns-clause-ints
returns-clause-ints c = ints_ordered

pub returns-clause-strings : goal.returns-clause-strings
returns-clause-strings c = strings_ordered
