use Rattle.std.proofs.Common.{◌≡◌, ◌≤◌, ◌-◌, length, take}
use Rattle.std.specs.Io.KnownBytes.{Appends}
use Rattle.bq_run_device.proofs.transfer.write_all.Given as goal

abbrev pub invariant-loop-at : goal.invariant-loop-at
invariant-loop-at g l = record {
  within : l.at ≤ length l.text;
  sent : Appends (g.W.ByteSink.contents l.fn.writer) (g.W.ByteSink.contents l.writer) (take l.at l.text);
  quiet : g.W.Counted.failed l.writer ≡ g.W.Counted.failed l.fn.writer;
}

abbrev pub decreases-loop-at : goal.decreases-loop-at
decreases-loop-at g l = length l.text - l.at
