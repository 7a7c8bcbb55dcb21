-- the columns so far have lost their first elements, which are in the row
use Rattle.std.proofs.Common.{◌≡◌, ◌++◌, map, take, drop}
use Rattle.bq_builtin.specs.Sequences.{heads}
use Rattle.bq_builtin.proofs.zip.row.Given as goal

abbrev pub invariant-loop-column : goal.invariant-loop-column
invariant-loop-column l = record { row : l.values.items ++ heads (drop l.column-index l.initial.columns) ≡ heads l.initial.columns; rest : l.columns ≡ map (drop 1) (take l.column-index l.initial.columns) ++ drop l.column-index l.initial.columns }
