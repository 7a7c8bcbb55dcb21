use Rattle.bq_board_plan.proofs.Edges.{start_none, start_next, start_whole}
use Rattle.bq_board_plan.proofs.plan.starts_are_sums.Goals as goal

pub returns : goal.returns
returns c p = (start_none p, start_next p, start_whole p)
