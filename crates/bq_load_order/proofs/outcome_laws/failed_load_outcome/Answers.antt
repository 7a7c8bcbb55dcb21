use Rattle.bq_load_order.proofs.Cases.{failed_says}
use Rattle.bq_load_order.proofs.outcome_laws.failed_load_outcome.Goals as goal

pub returns : goal.returns
returns g c means p = failed_says means p (c.cyclic_loads_a_cyclic.ensures p) (c.loads_of_too_deep.ensures p)
