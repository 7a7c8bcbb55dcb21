use Rattle.std.proofs.Common.{◌≡◌}
use Rattle.bq_run_commands.specs.Reading.{ahead}
use Rattle.bq_run_commands.proofs.FirstLines.{IsRead}
use Rattle.bq_run_commands.proofs.lines.read_line.Given as goal

abbrev pub invariant-loop-line : goal.invariant-loop-line
invariant-loop-line g l = record {
  read : IsRead l.fn.left l.left (ahead l.fn.left (g.R.ByteSource.remaining l.fn.reader)) (ahead l.left (g.R.ByteSource.remaining l.reader)) l.line.items;
  quiet : g.R.Counted.failed l.reader ≡ g.R.Counted.failed l.fn.reader;
}

abbrev pub decreases-loop-line : goal.decreases-loop-line
decreases-loop-line g l = l.left
