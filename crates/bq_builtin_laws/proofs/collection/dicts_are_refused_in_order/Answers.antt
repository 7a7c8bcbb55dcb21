use Rattle.bq_builtin_laws.proofs.Collections.Dicts.{setdefault_refused}
use Rattle.bq_builtin_laws.proofs.collection.dicts_are_refused_in_order.Goals as goal

pub returns-clause-setdefault : goal.returns-clause-setdefault
returns-clause-setdefault c home number ps args s known k o asked = setdefault_refused home number ps s known k o args asked
