use Rattle.bq_value.proofs.Orders.{order_itself, order_back, order_on, order_equal}
use Rattle.bq_value.proofs.walk_laws.less_is_an_order.Goals as goal

pub returns-clause-itself : goal.returns-clause-itself
returns-clause-itself c = order_itself

pub returns-clause-turned : goal.returns-clause-turned
returns-clause-turned c = order_back

pub returns-clause-transitive : goal.returns-clause-transitive
returns-clause-transitive c = order_on

pub returns-clause-equal : goal.returns-clause-equal
returns-clause-equal c = order_equal
