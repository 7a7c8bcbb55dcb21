use Rattle.bq_load_order.proofs.Cases.{cyclic_says}
use Rattle.bq_load_order.proofs.outcome_laws.cyclic_outcome.Goals as goal

pub returns : goal.returns
returns g c means p = cyclic_says means p (c.cyclic_loads_a_cyclic.ensures p)
