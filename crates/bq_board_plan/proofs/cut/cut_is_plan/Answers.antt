use Rattle.bq_board_plan.proofs.Cutting.{cut_plan}
use Rattle.bq_board_plan.proofs.cut.cut_is_plan.Goals as goal

pub returns : goal.returns
returns c p q g is = cut_plan p q is (c.cyclic_is_a_path.ensures p) (c.cyclic_is_a_path.ensures q) g is
