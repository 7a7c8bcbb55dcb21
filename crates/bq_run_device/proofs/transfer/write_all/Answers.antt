use Rattle.std.proofs.Common.{arith, ◌∙◌}
use Rattle.bq_run_device.proofs.Transfers.{Appends-front, took_some}
use Rattle.bq_run_device.proofs.transfer.write_all.Goals as goal

pub loop-at-preserved : goal.loop-at-preserved
loop-at-preserved g c = let e = c.in-Ok.ensures in let m = c.in-Ok.n-test in record {
  within = omega (arith, e.bound);
  sent = Appends-front _ _ _ _ _ _ c.loop-at.invariant.sent e.bytes;
  quiet = e.count ∙ (took_some _ _ _ m.1 ∙ c.loop-at.invariant.quiet);
}
