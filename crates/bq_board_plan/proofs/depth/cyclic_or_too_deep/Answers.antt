use Rattle.bq_board_plan.proofs.Deep.{not_both_is}
use Rattle.bq_board_plan.proofs.depth.cyclic_or_too_deep.Goals as goal

pub returns : goal.returns
returns c p = not_both_is p
