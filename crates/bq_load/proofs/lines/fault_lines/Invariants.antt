use Rattle.std.proofs.Common.{◌≡◌, map, drop}
use Rattle.bq_base_texts.specs.FaultLine.{put_lines, sorted_lines}
use Rattle.bq_load.specs.Views.{outcome_view}
use Rattle.bq_load.specs.Loaded.{fault_lines}
use Rattle.bq_load.proofs.lines.fault_lines.Given as goal

abbrev pub invariant-loop-each : goal.invariant-loop-each
invariant-loop-each l = put_lines l.lines (fault_lines (map outcome_view (drop l.each-index l.modules))) ≡ sorted_lines (fault_lines (map outcome_view l.modules))
