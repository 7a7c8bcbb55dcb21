use Rattle.std.proofs.Common.{◌≡◌, ◌-◌, ◌+◌, length}
use Rattle.std.specs.Io.KnownBytes.{Consumes}
use Rattle.bq_run_device.proofs.transfer.read_all.Given as goal

abbrev pub invariant-loop-chunk : goal.invariant-loop-chunk
invariant-loop-chunk g l = record {
  got : Consumes (g.R.ByteSource.remaining l.fn.reader) (g.R.ByteSource.remaining l.reader) l.bytes.items;
  quiet : g.R.Counted.failed l.reader ≡ g.R.Counted.failed l.fn.reader;
}

abbrev pub decreases-loop-chunk : goal.decreases-loop-chunk
decreases-loop-chunk g l = l.limit + 1 - length l.bytes.items
