use Rattle.std.proofs.Common.{length}
use Rattle.bq_query_graph.specs.Marks.{IsSet, Marked}
use Rattle.bq_query_function.proofs.RelatedSets.{RelatedBelow}
use Rattle.bq_query_function.proofs.related.related.Given as goal

abbrev pub invariant-loop-at : goal.invariant-loop-at
invariant-loop-at g l = IsSet (length l.targets) l.marks.items (RelatedBelow l.at (g.R.Relation.relates l.relation) l.targets (Marked l.x))
