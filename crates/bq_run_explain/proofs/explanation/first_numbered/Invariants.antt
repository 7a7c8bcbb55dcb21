use Rattle.std.proofs.Common.{◌≡◌, length, map}
use Rattle.bq_run_explain.specs.Numbers.{error_entry, first_entry}
use Rattle.bq_run_explain.proofs.explanation.first_numbered.Given as goal

abbrev pub invariant-loop-table : goal.invariant-loop-table
invariant-loop-table l = first_entry l.number (map error_entry l.table) ≡ first_entry l.number (map error_entry l.initial.table)

abbrev pub decreases-loop-table : goal.decreases-loop-table
decreases-loop-table l = length l.table
