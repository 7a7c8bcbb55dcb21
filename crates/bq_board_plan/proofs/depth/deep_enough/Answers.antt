use Rattle.bq_board_plan.proofs.Deep.{deep_enough_is}
use Rattle.bq_board_plan.proofs.depth.deep_enough.Goals as goal

pub returns : goal.returns
returns c p = deep_enough_is p
