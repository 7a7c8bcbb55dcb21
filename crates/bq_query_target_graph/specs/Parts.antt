-- What is found along a part of the targets.
use Rattle.std.specs.Prelude.{◌≡◌, ℕ, List, [], Result, Ok, Err}
use Rattle.std.specs.declared.alloc.AllocError.{AllocError}
use Rattle.bq_label.specs.Label.{LabelParts}
use Rattle.bq_base_texts.specs.declared.fault_line.FaultLine.{FaultLine}
use Rattle.bq_package_target.specs.declared.target.Target.{Target}
use Rattle.bq_query_target_graph.specs.declared.edges.Part.{Part}
use Rattle.bq_query_target_graph.specs.Edges.{rows_of}
use Rattle.bq_query_target_graph.specs.Dangling.{dangling_from}

-- the rows and the lines of targets, by the labels of all targets and the BUILD files
pub record IsFoundIn (ls files : List LabelParts) (ts : List Target) (p : Part) : Type 0 where
  pub rows : p.rows ≡ rows_of ls ts
  pub lines : p.dangling.items ≡ dangling_from ls files ts

-- the rows of a part; none where memory ran out
abbrev pub part_rows : Result Part AllocError → List (List ℕ)
part_rows (Ok p) = p.rows
part_rows (Err e) = []

-- its fault lines, of labels that name no target; none where memory ran out
abbrev pub part_lines : Result Part AllocError → List FaultLine
part_lines (Ok p) = p.dangling.items
part_lines (Err e) = []
