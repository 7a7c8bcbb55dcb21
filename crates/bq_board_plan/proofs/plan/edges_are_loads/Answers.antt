use Rattle.bq_board_plan.proofs.Edges.{are_loads}
use Rattle.bq_board_plan.proofs.plan.edges_are_loads.Goals as goal

pub returns : goal.returns
returns c p = are_loads p
