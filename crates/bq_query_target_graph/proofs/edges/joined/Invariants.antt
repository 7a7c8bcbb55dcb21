use Rattle.std.proofs.Common.{◌≡◌, ◌++◌, All, IsOk}
use Rattle.std.specs.List.{flat_map}
use Rattle.std.specs.Vec.Iter.{into_iter_items}
use Rattle.bq_base_texts.specs.FaultLine.{put_lines, sorted_lines}
use Rattle.bq_query_target_graph.specs.Parts.{part_rows, part_lines}
use Rattle.bq_query_target_graph.proofs.edges.joined.Given as goal

abbrev pub invariant-loop-one : goal.invariant-loop-one
invariant-loop-one l = record {
  given : All IsOk (into_iter_items l.one-iterator) → All IsOk l.fn.parts.items;
  rows : l.found.rows ++ flat_map part_rows (into_iter_items l.one-iterator) ≡ flat_map part_rows l.fn.parts.items;
  lines : put_lines l.found.dangling (flat_map part_lines (into_iter_items l.one-iterator)) ≡ sorted_lines (flat_map part_lines l.fn.parts.items);
}
