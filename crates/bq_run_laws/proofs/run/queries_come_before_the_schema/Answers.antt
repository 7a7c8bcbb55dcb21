use Rattle.bq_run_laws.proofs.Order.{wrong_query_first, right_query}
use Rattle.bq_run_laws.proofs.run.queries_come_before_the_schema.Goals as goal

pub returns-clause-wrong : goal.returns-clause-wrong
returns-clause-wrong c = wrong_query_first

pub returns-clause-right : goal.returns-clause-right
returns-clause-right c = right_query
