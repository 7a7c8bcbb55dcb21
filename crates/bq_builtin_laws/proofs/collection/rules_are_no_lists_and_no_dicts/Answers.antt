use Rattle.bq_builtin_laws.proofs.Collections.Rules.{no_set, no_sum, no_union}
use Rattle.bq_builtin_laws.proofs.collection.rules_are_no_lists_and_no_dicts.Goals as goal

pub returns-clause-set : goal.returns-clause-set
returns-clause-set c = no_set

pub returns-clause-sum : goal.returns-clause-sum
returns-clause-sum c = no_sum

pub returns-clause-union : goal.returns-clause-union
returns-clause-union c = no_union
