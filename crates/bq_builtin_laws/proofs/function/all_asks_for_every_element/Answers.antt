use Rattle.bq_builtin_laws.proofs.Functions.Truths.{every_true, some_false}
use Rattle.bq_builtin_laws.proofs.function.all_asks_for_every_element.Goals as goal

pub returns-clause-every : goal.returns-clause-every
returns-clause-every c = every_true

pub returns-clause-not_one : goal.returns-clause-not_one
returns-clause-not_one c = some_false
