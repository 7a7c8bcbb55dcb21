use Rattle.bq_board_plan.proofs.Going.{loads_a_cyclic}
use Rattle.bq_board_plan.proofs.cycles.cyclic_loads_a_cyclic.Goals as goal

pub returns : goal.returns
returns c p = loads_a_cyclic p
