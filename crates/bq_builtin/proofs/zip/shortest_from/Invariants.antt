use Rattle.std.proofs.Common.{◌≡◌, drop}
use Rattle.bq_builtin.specs.Sequences.{shortest_from}
use Rattle.bq_builtin.proofs.zip.shortest_from.Given as goal

abbrev pub invariant-loop-column : goal.invariant-loop-column
invariant-loop-column l = shortest_from l.fn.count l.columns ≡ shortest_from l.count (drop l.column-index l.columns)
