use Rattle.bq_builtin_laws.proofs.Functions.Truths.{some_true, none_true}
use Rattle.bq_builtin_laws.proofs.function.any_asks_for_one_element.Goals as goal

pub returns-clause-one : goal.returns-clause-one
returns-clause-one c = some_true

pub returns-clause-none : goal.returns-clause-none
returns-clause-none c = none_true
