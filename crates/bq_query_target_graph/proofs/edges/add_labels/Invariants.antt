use Rattle.std.proofs.Common.{◌≡◌, ◌++◌, None, drop}
use Rattle.std.specs.Option.{option_copied}
use Rattle.bq_query_target_graph.specs.Edges.{unrepeated, numbers_of}
use Rattle.bq_query_target_graph.specs.Dangling.{dangling_to}
use Rattle.bq_query_target_graph.proofs.edges.add_labels.Given as goal

-- what is there, with what the labels that are left give, is all
abbrev pub invariant-loop-label : goal.invariant-loop-label
invariant-loop-label l = record {
  row : l.row.items ++ numbers_of l.source.labels.now (unrepeated (option_copied l.before) (drop l.label-index l.named)) ≡ l.fn.row.items ++ numbers_of l.source.labels.now (unrepeated None l.named);
  lines : l.lines.items ++ dangling_to l.source.labels.now l.source.files.now l.source.target.now (unrepeated (option_copied l.before) (drop l.label-index l.named))
      ≡ l.fn.lines.items ++ dangling_to l.source.labels.now l.source.files.now l.source.target.now (unrepeated None l.named);
}
