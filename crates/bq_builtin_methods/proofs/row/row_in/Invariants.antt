use Rattle.std.proofs.Common.{◌≡◌, ◌+◌, ◌≤◌, length, map}
use Rattle.bq_builtin_methods.specs.Row.{row_from}
use Rattle.bq_builtin_methods.proofs.row.row_in.Given as goal

-- what is left decides
abbrev pub invariant-loop-table : goal.invariant-loop-table
invariant-loop-table l =
    (row_from l.place l.name (map (λ row. (row.0.now, row.1)) l.table) ≡ row_from 0 l.name (map (λ row. (row.0.now, row.1)) l.initial.table))
    × (l.place + length l.table ≤ 4294967295)

abbrev pub decreases-loop-table : goal.decreases-loop-table
decreases-loop-table l = length l.table
