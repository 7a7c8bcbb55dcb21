use Rattle.std.proofs.Common.{◌≡◌, length}
use Rattle.bq_query_graph.specs.Marks.{Step, Both}
use Rattle.bq_query_graph.proofs.Spreads.{Stands}
use Rattle.bq_query_graph.proofs.search.within.Given as goal

abbrev pub invariant-loop-n : goal.invariant-loop-n
invariant-loop-n l = record {
  long : length l.marks.items ≡ length l.graph;
  stands : Stands (Step l.graph l.allowed) (Both l.seeds l.allowed) l.n l.marks.items l.queue.items l.head;
}
