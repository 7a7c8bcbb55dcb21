use Rattle.bq_load_laws.proofs.Outcomes.Prints.{kept}
use Rattle.bq_load_laws.proofs.outcome.prints_are_kept.Goals as goal

pub returns : goal.returns
returns c = kept
