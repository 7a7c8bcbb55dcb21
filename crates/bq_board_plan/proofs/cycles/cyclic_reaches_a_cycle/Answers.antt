use Rattle.bq_board_plan.proofs.Going.{reaches_a_cycle}
use Rattle.bq_board_plan.proofs.cycles.cyclic_reaches_a_cycle.Goals as goal

pub returns : goal.returns
returns c p = reaches_a_cycle p
