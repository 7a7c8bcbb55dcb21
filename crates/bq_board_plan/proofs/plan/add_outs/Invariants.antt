use Rattle.std.proofs.Common.{◌≡◌, ◌+◌, length, take}
use Rattle.bq_board_plan.specs.Plan.{AddsOuts}
use Rattle.bq_board_plan.specs.Graph.{lists}
use Rattle.bq_board_plan.proofs.plan.add_outs.Given as goal

abbrev pub invariant-loop-l : goal.invariant-loop-l
invariant-loop-l l = record {
  outs : AddsOuts l.first (take l.l-index l.loaded) (lists l.fn.outs.items) (lists l.outs.items);
  wide : length l.outs.items ≡ length l.fn.outs.items;
  next : l.e ≡ l.first + l.l-index;
}
