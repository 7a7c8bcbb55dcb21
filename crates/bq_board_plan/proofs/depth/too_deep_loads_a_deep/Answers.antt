use Rattle.bq_board_plan.proofs.Deep.{loads_a_deep}
use Rattle.bq_board_plan.proofs.depth.too_deep_loads_a_deep.Goals as goal

pub returns : goal.returns
returns c p = loads_a_deep p
