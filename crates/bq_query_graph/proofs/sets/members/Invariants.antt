use Rattle.std.proofs.Common.{◌-◌, ◌≤◌, length}
use Rattle.bq_query_graph.specs.Marks.{HeldBelow}
use Rattle.bq_query_graph.proofs.sets.members.Given as goal

abbrev pub invariant-loop-from : goal.invariant-loop-from
invariant-loop-from l = record {
  within : l.from ≤ length l.marks;
  listed : HeldBelow l.marks l.from l.listed.items;
}

abbrev pub decreases-loop-from : goal.decreases-loop-from
decreases-loop-from l = length l.marks - l.from
