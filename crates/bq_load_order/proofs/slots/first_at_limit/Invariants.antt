use Rattle.std.proofs.Common.{◌≡◌, drop}
use Rattle.bq_board_plan.specs.Cycles.{starts_path}
use Rattle.bq_board_plan.specs.Depth.{max_load_depth}
use Rattle.bq_load_order.specs.Outcome.{first}
use Rattle.bq_load_order.proofs.slots.first_at_limit.Given as goal

abbrev pub invariant-loop-l : goal.invariant-loop-l
invariant-loop-l l = first (starts_path l.graph max_load_depth) l.loads ≡ first (starts_path l.graph max_load_depth) (drop l.l-index l.loads)
