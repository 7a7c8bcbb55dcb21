use Rattle.bq_board_plan.proofs.Paths.{path_is, is_path}
use Rattle.bq_board_plan.proofs.cycles.cyclic_is_a_path.Goals as goal

pub returns : goal.returns
returns c p n m = (path_is p n m, is_path p n m)
