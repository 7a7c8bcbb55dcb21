use Rattle.std.proofs.Common.{◌∙◌, ◌++◌, subst}
use Rattle.std.specs.Io.KnownBytes.{Appends}
use Rattle.bq_run_device.specs.Device.{Begins}
use Rattle.bq_run_device.proofs.Transfers.{Appends-more, Begins-front, Begins-more, Begins-whole}
use Rattle.bq_run_session.proofs.blocks.write_body.Goals as goal

pub returns-in_err-write_rope-clause-begins : goal.returns-in_err-write_rope-clause-begins
returns-in_err-write_rope-clause-begins g c =
    let a = g.W.ByteSink.contents c.args.writer.now in
    let b = g.W.ByteSink.contents c.write_rope.new.writer in
    Begins-front a b c.args.text.now c.args.frame.now.error.items c.write_rope.ensures.begins

pub returns-in_err-write_all-clause-begins : goal.returns-in_err-write_all-clause-begins
returns-in_err-write_all-clause-begins g c =
    let a = g.W.ByteSink.contents c.args.writer.now in
    let b = g.W.ByteSink.contents c.write_rope.new.writer in
    let d = g.W.ByteSink.contents c.write_all.new.writer in
    Begins-more a b d c.args.text.now c.args.frame.now.error.items c.in_ok-write_rope.ensures.whole (subst (Begins b d) c.deref.ensures.value c.write_all.ensures.begins)

pub returns-clause-whole : goal.returns-clause-whole
returns-clause-whole g c =
    let a = g.W.ByteSink.contents c.args.writer.now in
    let b = g.W.ByteSink.contents c.write_rope.new.writer in
    let d = g.W.ByteSink.contents c.write_all.new.writer in
    Appends-more a b d c.args.text.now c.args.frame.now.error.items c.in_ok-write_rope.ensures.whole (subst (Appends b d) c.deref.ensures.value c.in_ok-write_all.ensures.whole)

pub returns-clause-begins : goal.returns-clause-begins
returns-clause-begins g c =
    let a = g.W.ByteSink.contents c.args.writer.now in
    let b = g.W.ByteSink.contents c.write_rope.new.writer in
    let d = g.W.ByteSink.contents c.write_all.new.writer in
    Begins-whole a d (c.args.text.now ++ c.args.frame.now.error.items)
    (Appends-more a b d c.args.text.now c.args.frame.now.error.items c.in_ok-write_rope.ensures.whole (subst (Appends b d) c.deref.ensures.value c.in_ok-write_all.ensures.whole))
