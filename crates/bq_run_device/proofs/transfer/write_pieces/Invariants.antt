use Rattle.std.proofs.Common.{◌≡◌, ◌++◌, drop}
use Rattle.std.specs.List.{concat}
use Rattle.bq_run_device.proofs.Transfers.{IsSent}
use Rattle.bq_run_device.proofs.transfer.write_pieces.Given as goal

abbrev pub invariant-loop-piece : goal.invariant-loop-piece
invariant-loop-piece g l = record {
  sent : IsSent (g.W.ByteSink.contents l.fn.writer) (g.W.ByteSink.contents l.writer) (concat l.pieces) (concat (drop l.piece-index l.pieces));
  quiet : g.W.Counted.failed l.writer ≡ g.W.Counted.failed l.fn.writer;
}
