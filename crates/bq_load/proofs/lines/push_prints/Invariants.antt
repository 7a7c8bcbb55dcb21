use Rattle.std.proofs.Common.{◌≡◌, ◌++◌, drop}
use Rattle.std.specs.List.{flat_map}
use Rattle.bq_load.specs.Loaded.{print_line}
use Rattle.bq_load.proofs.lines.push_prints.Given as goal

abbrev pub invariant-loop-print : goal.invariant-loop-print
invariant-loop-print l = l.text ++ flat_map (print_line l.form) (drop l.print-index l.prints) ≡ l.fn.text ++ flat_map (print_line l.form) l.prints
