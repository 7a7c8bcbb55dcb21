use Rattle.bq_load_laws.proofs.Kept.{unchanged_keep}
use Rattle.bq_load_laws.proofs.changed_outcome.unchanged_modules_keep_their_outcomes.Goals as goal

pub returns : goal.returns
returns c = unchanged_keep
