use Rattle.bq_query_graph.specs.Marks.{Grew, After}
use Rattle.bq_query_graph.proofs.search.level.Given as goal

abbrev pub invariant-loop-k : goal.invariant-loop-k
invariant-loop-k l = Grew (After l.graph l.allowed l.fn.queue.items l.from l.k) l.fn.marks.items l.fn.queue.items l.marks.items l.queue.items
