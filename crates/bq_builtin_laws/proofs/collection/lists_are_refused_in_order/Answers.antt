use Rattle.bq_builtin_laws.proofs.Collections.Lists.{remove_refused}
use Rattle.bq_builtin_laws.proofs.collection.lists_are_refused_in_order.Goals as goal

pub returns-clause-remove : goal.returns-clause-remove
returns-clause-remove c home number xs v s known = remove_refused home number xs s known v
