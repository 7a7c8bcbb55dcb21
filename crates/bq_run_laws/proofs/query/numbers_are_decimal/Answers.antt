use Rattle.bq_run_laws.proofs.Queries.Numbers.{numbers}
use Rattle.bq_run_laws.proofs.query.numbers_are_decimal.Goals as goal

pub returns : goal.returns
returns c = numbers
