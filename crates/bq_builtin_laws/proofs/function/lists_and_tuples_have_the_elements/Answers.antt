use Rattle.bq_builtin_laws.proofs.Functions.Listed.{list_is, tuple_is}
use Rattle.bq_builtin_laws.proofs.function.lists_and_tuples_have_the_elements.Goals as goal

pub returns-clause-list : goal.returns-clause-list
returns-clause-list c = list_is

pub returns-clause-tuple : goal.returns-clause-tuple
returns-clause-tuple c = tuple_is
