use Rattle.bq_board_plan.proofs.Deep.{too_deep_by_paths}
use Rattle.bq_board_plan.proofs.depth.too_deep_is_a_path.Goals as goal

pub returns : goal.returns
returns c p = too_deep_by_paths p
