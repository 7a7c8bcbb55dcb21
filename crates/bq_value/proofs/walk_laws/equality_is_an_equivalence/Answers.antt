use Rattle.bq_value.proofs.Orders.{equals_itself, equals_back, equals_on}
use Rattle.bq_value.proofs.walk_laws.equality_is_an_equivalence.Goals as goal

pub returns-clause-reflexive : goal.returns-clause-reflexive
returns-clause-reflexive c = equals_itself

pub returns-clause-symmetric : goal.returns-clause-symmetric
returns-clause-symmetric c = equals_back

pub returns-clause-transitive : goal.returns-clause-transitive
returns-clause-transitive c = equals_on
