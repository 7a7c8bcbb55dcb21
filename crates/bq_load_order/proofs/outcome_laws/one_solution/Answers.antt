use Rattle.bq_load_order.proofs.Solution.{solved}
use Rattle.bq_load_order.proofs.outcome_laws.one_solution.Goals as goal

pub returns : goal.returns
returns g c means p = solved means p
