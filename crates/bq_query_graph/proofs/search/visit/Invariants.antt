use Rattle.bq_query_graph.specs.Marks.{Grew}
use Rattle.bq_query_graph.proofs.Visits.{Before}
use Rattle.bq_query_graph.proofs.search.visit.Given as goal

abbrev pub invariant-loop-next : goal.invariant-loop-next
invariant-loop-next l = Grew (Before l.row l.allowed l.next-index) l.fn.marks.items l.fn.queue.items l.marks.items l.queue.items
