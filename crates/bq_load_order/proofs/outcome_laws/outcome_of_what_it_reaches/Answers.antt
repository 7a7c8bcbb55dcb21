use Rattle.bq_load_order.proofs.Reached.{reached_says}
use Rattle.bq_load_order.proofs.outcome_laws.outcome_of_what_it_reaches.Goals as goal

pub returns : goal.returns
returns g c means others p q = reached_says means others p q (c.cyclic_reaches_a_cycle.ensures p) (c.cyclic_reaches_a_cycle.ensures q)
