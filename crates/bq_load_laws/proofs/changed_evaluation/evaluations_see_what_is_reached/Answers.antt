use Rattle.bq_load_laws.proofs.Seen.{same_run}
use Rattle.bq_load_laws.proofs.changed_evaluation.evaluations_see_what_is_reached.Goals as goal

pub returns : goal.returns
returns c = same_run
