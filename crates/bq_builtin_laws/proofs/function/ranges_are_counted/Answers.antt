use Rattle.bq_builtin_laws.proofs.Functions.Ranges.{to_stop, from_start, by_step}
use Rattle.bq_builtin_laws.proofs.function.ranges_are_counted.Goals as goal

pub returns-clause-stop : goal.returns-clause-stop
returns-clause-stop c = to_stop

pub returns-clause-start : goal.returns-clause-start
returns-clause-start c = from_start

pub returns-clause-step : goal.returns-clause-step
returns-clause-step c = by_step
