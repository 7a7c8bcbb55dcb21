use Rattle.std.proofs.Common.{subst}
use Rattle.std.proofs.lemmas.Result.{on_ok_weaker}
use Rattle.std.specs.Io.KnownBytes.{Appends}
use Rattle.std.specs.List.{concat}
use Rattle.bq_run_device.specs.Device.{Begins}
use Rattle.bq_run_device.proofs.Transfers.{Appends-more, Begins-front, Begins-more}
use Rattle.bq_run_device.proofs.transfer.write_rope.Goals as goal

pub returns-in_err-write_pieces-clause-begins : goal.returns-in_err-write_pieces-clause-begins
returns-in_err-write_pieces-clause-begins g c =
    let a = g.W.ByteSink.contents c.args.writer.now in
    let b = g.W.ByteSink.contents c.write_pieces.new.writer in
    let p = c.parts-parts.result in
    subst (Begins a b) c.parts-parts.ensures (Begins-front a b (concat p.pieces.now) p.rest.now c.write_pieces.ensures.begins)

pub returns-clause-whole : goal.returns-clause-whole
returns-clause-whole g c =
    let a = g.W.ByteSink.contents c.args.writer.now in
    let b = g.W.ByteSink.contents c.write_pieces.new.writer in
    let d = g.W.ByteSink.contents c.write_all.new.writer in
    let p = c.parts-parts.result in
    on_ok_weaker c.write_all.result
    (λ (last : Appends b d p.rest.now). subst (Appends a d) c.parts-parts.ensures (Appends-more a b d (concat p.pieces.now) p.rest.now c.in_ok-write_pieces.ensures.whole last))
    c.write_all.ensures.whole

pub returns-clause-begins : goal.returns-clause-begins
returns-clause-begins g c =
    let a = g.W.ByteSink.contents c.args.writer.now in
    let b = g.W.ByteSink.contents c.write_pieces.new.writer in
    let d = g.W.ByteSink.contents c.write_all.new.writer in
    let p = c.parts-parts.result in
    subst (Begins a d) c.parts-parts.ensures (Begins-more a b d (concat p.pieces.now) p.rest.now c.in_ok-write_pieces.ensures.whole c.write_all.ensures.begins)
