use Rattle.std.proofs.Common.{◌≡◌, ◌≤◌, ◌-◌, length}
use Rattle.std.specs.Io.KnownBytes.{Consumes}
use Rattle.bq_run_commands.specs.Reading.{ahead}
use Rattle.bq_run_commands.proofs.items.read_content.Given as goal

abbrev pub invariant-loop-reader : goal.invariant-loop-reader
invariant-loop-reader g l = record {
  got : Consumes (ahead l.fn.left (g.R.ByteSource.remaining l.fn.reader)) (ahead l.left (g.R.ByteSource.remaining l.reader)) l.bytes.items;
  within : length l.bytes.items ≤ l.count;
  no_more : l.left ≤ l.fn.left;
  quiet : g.R.Counted.failed l.reader ≡ g.R.Counted.failed l.fn.reader;
}

abbrev pub decreases-loop-reader : goal.decreases-loop-reader
decreases-loop-reader g l = l.count - length l.bytes.items
