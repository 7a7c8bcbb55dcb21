use Rattle.std.proofs.Common.{◌≡◌, ◌+◌, take}
use Rattle.bq_query_target_graph.specs.Order.{target_labels}
use Rattle.bq_query_target_graph.specs.Edges.{rows_of}
use Rattle.bq_query_target_graph.specs.Dangling.{dangling_from}
use Rattle.bq_query_target_graph.proofs.edges.found_in.Given as goal

abbrev pub invariant-loop-target : goal.invariant-loop-target
invariant-loop-target l = record {
  numbered : l.labels ≡ target_labels l.targets;
  count : l.number ≡ l.first + l.target-index;
  rows : l.rows ≡ rows_of (target_labels l.targets) (take l.target-index l.part);
  lines : l.dangling.items ≡ dangling_from (target_labels l.targets) l.files (take l.target-index l.part);
}
