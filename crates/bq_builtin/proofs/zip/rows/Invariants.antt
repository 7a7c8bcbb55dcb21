-- the tuples so far, with those that are left, are the tuples
use Rattle.std.proofs.Common.{◌≡◌, ◌++◌, ◌-◌}
use Rattle.bq_builtin.specs.Sequences.{rows}
use Rattle.bq_builtin.proofs.zip.rows.Given as goal

abbrev pub invariant-loop-row : goal.invariant-loop-row
invariant-loop-row l = l.tuples.items ++ rows (l.count - l._row) l.columns ≡ rows l.count l.initial.columns
