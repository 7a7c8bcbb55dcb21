use Rattle.std.proofs.Common.{take, get_or}
use Rattle.bq_board_plan.specs.Depth.{IsOneAbove}
use Rattle.bq_board_plan.proofs.depth.depth_by.Given as goal

abbrev pub invariant-loop-l : goal.invariant-loop-l
invariant-loop-l l = IsOneAbove (λ x. get_or l.depths x 0) (take l.l-index l.loads) l.depth
