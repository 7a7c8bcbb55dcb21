use Rattle.std.proofs.Common.{◌≡◌}
use Rattle.std.specs.Vec.Iter.{into_iter_items}
use Rattle.bq_base_texts.specs.FaultLine.{put_lines}
use Rattle.bq_query_target_graph.proofs.edges.add_lines.Given as goal

-- the lines that are left, put into those that are there
abbrev pub invariant-loop-line : goal.invariant-loop-line
invariant-loop-line l = put_lines l.all (into_iter_items l.line-iterator) ≡ put_lines l.fn.all l.fn.lines.items
