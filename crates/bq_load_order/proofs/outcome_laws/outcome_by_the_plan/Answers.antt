use Rattle.bq_load_order.proofs.Cases.{by_plan_says}
use Rattle.bq_load_order.proofs.outcome_laws.outcome_by_the_plan.Goals as goal

pub returns : goal.returns
returns g c means p q = by_plan_says means p q
