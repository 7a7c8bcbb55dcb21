use Rattle.std.proofs.Common.{◌≡◌, drop}
use Rattle.bq_board_plan.specs.Cycles.{is_cyclic}
use Rattle.bq_load_order.specs.Outcome.{first}
use Rattle.bq_load_order.proofs.slots.first_cyclic.Given as goal

abbrev pub invariant-loop-l : goal.invariant-loop-l
invariant-loop-l l = first (is_cyclic l.graph) l.loads ≡ first (is_cyclic l.graph) (drop l.l-index l.loads)
