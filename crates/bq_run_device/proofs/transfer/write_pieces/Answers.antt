use Rattle.std.proofs.Common.{◌∙◌, refl, subst}
use Rattle.std.specs.Io.KnownBytes.{Appends}
use Rattle.bq_run_device.specs.Device.{Begins}
use Rattle.bq_run_device.proofs.Transfers.{Begins-whole, left_more, left_none, sent_all, sent_begins, sent_more, sent_none}
use Rattle.bq_run_device.proofs.transfer.write_pieces.Goals as goal

pub loop-piece-init : goal.loop-piece-init
loop-piece-init g c = record { sent = sent_none _ _; quiet = refl }

pub loop-piece-preserved : goal.loop-piece-preserved
loop-piece-preserved g c = record {
  sent = sent_more _ _ _ _ _ _ _ (left_more c.args.pieces.now c.loop-piece.piece-index c.piece-item.result c.loop-piece-test.true c.piece-item.is) c.loop-piece.invariant.sent
      (subst (Appends _ _) c.as_slice.ensures c.in_ok-write_all.ensures.whole);
  quiet = c.in_ok-write_all.ensures.quiet ∙ c.loop-piece.invariant.quiet;
}

pub returns-in_err-write_all-clause-begins : goal.returns-in_err-write_all-clause-begins
returns-in_err-write_all-clause-begins g c =
    sent_begins _ _ _ _ _ _ _ (left_more c.args.pieces.now c.loop-piece.piece-index c.piece-item.result c.loop-piece-test.true c.piece-item.is) c.loop-piece.invariant.sent
    (subst (Begins _ _) c.as_slice.ensures c.write_all.ensures.begins)

pub returns-clause-whole : goal.returns-clause-whole
returns-clause-whole g c = sent_all _ _ _ _ (left_none c.args.pieces.now c.loop-piece.piece-index c.loop-piece-test.false) c.loop-piece.invariant.sent

pub returns-clause-begins : goal.returns-clause-begins
returns-clause-begins g c = Begins-whole _ _ _ (sent_all _ _ _ _ (left_none c.args.pieces.now c.loop-piece.piece-index c.loop-piece-test.false) c.loop-piece.invariant.sent)
