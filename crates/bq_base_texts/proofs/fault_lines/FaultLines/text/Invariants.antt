use Rattle.std.proofs.Common.{◌≡◌, ◌++◌}
use Rattle.std.specs.List.{flat_map}
use Rattle.bq_base_texts.specs.LineText.{line_text}
use Rattle.bq_base_texts.proofs.fault_lines.FaultLines.text.Given as goal

abbrev pub invariant-loop-line : goal.invariant-loop-line
invariant-loop-line l = l.text ++ flat_map line_text l.line-iterator ≡ flat_map line_text l.fn.self
