use Rattle.std.proofs.Common.{◌≡◌, ◌++◌, None, take}
use Rattle.std.specs.List.{flat_map}
use Rattle.bq_value_datum.specs.AttributeValue.{labels_of}
use Rattle.bq_query_target_graph.specs.Edges.{unrepeated, numbers_of}
use Rattle.bq_query_target_graph.specs.Dangling.{dangling_to}
use Rattle.bq_query_target_graph.proofs.edges.add_dependencies.Given as goal

abbrev pub invariant-loop-given : goal.invariant-loop-given
invariant-loop-given l = record {
  row : l.row.items ≡ l.fn.row.items ++ numbers_of l.source.labels.now (flat_map (λ a. unrepeated None (labels_of a.value)) (take l.given-index l.attributes));
  lines : l.lines.items ≡ l.fn.lines.items ++ dangling_to l.source.labels.now l.source.files.now l.source.target.now (flat_map (λ a. unrepeated None (labels_of a.value)) (take l.given-index l.attributes));
}
