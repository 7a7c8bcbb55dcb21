-- Parts of definitions, as words that proofs name.
use Rattle.std.specs.Prelude.{List, Bool}
use Rattle.std.specs.List.{flat_map}
use Rattle.bq_label.specs.Label.{LabelParts}
use Rattle.bq_base_texts.specs.declared.fault_line.FaultLine.{FaultLine}
use Rattle.bq_package_target.specs.declared.target.Target.{Target}
use Rattle.bq_package_target.specs.Target.{dependencies}
use Rattle.bq_query_target_graph.specs.Dangling.{dangling}

-- the lines of the labels that a target depends on
abbrev pub dangling_in : (LabelParts → Bool) → LabelParts → Target → List FaultLine
dangling_in known b t = flat_map (dangling known b t.line) (dependencies t)
