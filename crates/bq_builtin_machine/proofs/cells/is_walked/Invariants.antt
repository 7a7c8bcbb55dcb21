-- the cell is among those that are left
use Rattle.std.proofs.Common.{◌≡◌, drop}
use Rattle.bq_builtin_machine.specs.Cells.{is_walked}
use Rattle.bq_builtin_machine.proofs.cells.is_walked.Given as goal

abbrev pub invariant-loop-walk : goal.invariant-loop-walk
invariant-loop-walk l = is_walked l.cell.module l.cell.number l.walks ≡ is_walked l.cell.module l.cell.number (drop l.walk-index l.walks)
