use Rattle.bq_load_laws.proofs.Reached.{values_reach}
use Rattle.bq_load_laws.proofs.changed_evaluation.values_reach_what_is_loaded.Goals as goal

pub returns : goal.returns
returns c = values_reach
