use Rattle.bq_board_plan.specs.Graph.{lists}
use Rattle.bq_board_plan.specs.Sorting.{Begins, DependentsBelow}
use Rattle.bq_board_plan.proofs.graph.Graph.begin.Given as goal

abbrev pub invariant-loop-m : goal.invariant-loop-m
invariant-loop-m l = record {
  order : Begins (l.self) l.m l.order.modules.items l.order.pending.items;
  dependents : DependentsBelow (l.self) l.m (lists l.dependents.items);
}
