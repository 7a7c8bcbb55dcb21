use Rattle.std.proofs.Common.{length, take}
use Rattle.bq_board_plan.specs.Graph.{sources, lists}
use Rattle.bq_board_plan.specs.Plan.{StartsBelow, TargetsBelow, OutsOf}
use Rattle.bq_board_plan.proofs.plan.Plan.of.Given as goal

abbrev pub invariant-loop-m : goal.invariant-loop-m
invariant-loop-m l = record {
  starts : StartsBelow l.fn.graph l.m l.next l.starts.items;
  targets : TargetsBelow l.fn.graph l.m l.targets.items;
  outs : OutsOf (sources (take l.m l.fn.graph)) (length l.fn.graph) (lists l.outs.items);
}
