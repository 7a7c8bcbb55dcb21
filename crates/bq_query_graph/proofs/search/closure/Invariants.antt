use Rattle.std.proofs.Common.{◌≡◌, ℕ, ◌+◌, ◌-◌, length}
use Rattle.bq_query_graph.specs.Marks.{Step, Both, unmarked}
use Rattle.bq_query_graph.proofs.Spreads.{Stands}
use Rattle.bq_query_graph.proofs.search.closure.Given as goal

abbrev pub invariant-loop-head : goal.invariant-loop-head
invariant-loop-head l = record {
  long : length l.marks.items ≡ length l.graph;
  stands : (n : ℕ) × Stands (Step l.graph l.allowed) (Both l.seeds l.allowed) n l.marks.items l.queue.items l.head;
}

abbrev pub decreases-loop-head : goal.decreases-loop-head
decreases-loop-head l = (unmarked l.marks.items + length l.queue.items) - l.head
