use Rattle.bq_load_order.proofs.Cases.{loaded_says}
use Rattle.bq_load_order.proofs.outcome_laws.loaded_outcome.Goals as goal

pub returns : goal.returns
returns g c means p = loaded_says means p
