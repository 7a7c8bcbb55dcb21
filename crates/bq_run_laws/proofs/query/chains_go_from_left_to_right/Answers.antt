use Rattle.bq_run_laws.proofs.Queries.Chains.{last_is_done_last}
use Rattle.bq_run_laws.proofs.query.chains_go_from_left_to_right.Goals as goal

pub returns : goal.returns
returns c = last_is_done_last
