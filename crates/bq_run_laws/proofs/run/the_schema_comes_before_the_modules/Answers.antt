use Rattle.bq_run_laws.proofs.Order.{wrong_schema_first}
use Rattle.bq_run_laws.proofs.run.the_schema_comes_before_the_modules.Goals as goal

pub returns : goal.returns
returns c = wrong_schema_first
