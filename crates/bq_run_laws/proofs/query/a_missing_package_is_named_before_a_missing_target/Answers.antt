use Rattle.bq_run_laws.proofs.Queries.Missing.{missing_package_first}
use Rattle.bq_run_laws.proofs.query.a_missing_package_is_named_before_a_missing_target.Goals as goal

pub returns : goal.returns
returns c = missing_package_first
