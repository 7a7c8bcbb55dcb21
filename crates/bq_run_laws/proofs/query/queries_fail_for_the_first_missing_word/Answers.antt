use Rattle.bq_run_laws.proofs.Queries.Missing.{fails_for_first}
use Rattle.bq_run_laws.proofs.query.queries_fail_for_the_first_missing_word.Goals as goal

pub returns : goal.returns
returns c = fails_for_first
