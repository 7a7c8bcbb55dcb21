use Rattle.bq_board_plan.proofs.Deep.{deep_is_reached}
use Rattle.bq_board_plan.proofs.depth.loads_of_too_deep.Goals as goal

pub returns : goal.returns
returns c p = deep_is_reached p
