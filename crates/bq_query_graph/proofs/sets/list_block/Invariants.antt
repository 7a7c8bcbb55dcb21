use Rattle.bq_query_graph.specs.Marks.{HeldBelow}
use Rattle.bq_query_graph.proofs.sets.list_block.Given as goal

abbrev pub invariant-loop-i : goal.invariant-loop-i
invariant-loop-i l = HeldBelow l.marks l.i l.listed.items
