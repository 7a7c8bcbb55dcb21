use Rattle.bq_run_laws.proofs.Queries.Chosen.{choose}
use Rattle.bq_run_laws.proofs.query.functions_look_at_targets.Goals as goal

pub returns : goal.returns
returns c = choose
