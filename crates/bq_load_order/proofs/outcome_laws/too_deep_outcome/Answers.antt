use Rattle.bq_load_order.proofs.Cases.{deep_says}
use Rattle.bq_load_order.proofs.outcome_laws.too_deep_outcome.Goals as goal

pub returns : goal.returns
returns g c means p = deep_says means p (c.cyclic_is_a_path.ensures p) (c.too_deep_loads_a_deep.ensures p)
