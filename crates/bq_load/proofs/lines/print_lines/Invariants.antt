use Rattle.std.proofs.Common.{◌≡◌, ◌++◌, map, drop}
use Rattle.bq_load.specs.Views.{outcome_view}
use Rattle.bq_load.specs.Loaded.{print_lines}
use Rattle.bq_load.proofs.lines.print_lines.Given as goal

abbrev pub invariant-loop-each : goal.invariant-loop-each
invariant-loop-each l = l.text ++ print_lines (map outcome_view (drop l.each-index l.modules)) ≡ print_lines (map outcome_view l.modules)
