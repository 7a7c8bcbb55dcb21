use Rattle.std.proofs.Common.{◌∙◌, ◌++◌, subst}
use Rattle.std.specs.Io.KnownBytes.{Appends}
use Rattle.bq_run_device.specs.Device.{Begins}
use Rattle.bq_run_write.specs.Status.{status_code}
use Rattle.bq_run_device.proofs.Transfers.{Appends-more, Begins-front, Begins-more}
use Rattle.bq_run_session.specs.Block.{body, header, line_count}
use Rattle.bq_run_session.proofs.blocks.write_block.Goals as goal

pub returns-in_err-write_all-clause-begins : goal.returns-in_err-write_all-clause-begins
returns-in_err-write_all-clause-begins g c =
    let a = g.W.ByteSink.contents c.args.writer.now in
    let b = g.W.ByteSink.contents c.write_all.new.writer in
    let lines = body c.args.text.now c.args.end.now in
    let first = header (status_code c.args.end.now) (line_count lines) c.args.line.now in
    λ _. Begins-front a b first lines (subst (Begins a b) (c.deref.ensures.value ∙ c.in_ok-frame.ensures.header) c.write_all.ensures.begins)

pub returns-in_err-write_body-clause-begins : goal.returns-in_err-write_body-clause-begins
returns-in_err-write_body-clause-begins g c =
    let a = g.W.ByteSink.contents c.args.writer.now in
    let b = g.W.ByteSink.contents c.write_all.new.writer in
    let d = g.W.ByteSink.contents c.write_body.new.writer in
    let lines = body c.args.text.now c.args.end.now in
    let first = header (status_code c.args.end.now) (line_count lines) c.args.line.now in
    λ _. Begins-more a b d first lines (subst (Appends a b) (c.deref.ensures.value ∙ c.in_ok-frame.ensures.header) c.in_ok-write_all.ensures.whole)
    (subst (λ e. Begins b d (c.args.text.now ++ e)) c.in_ok-frame.ensures.error c.write_body.ensures.begins)

pub returns-clause-whole : goal.returns-clause-whole
returns-clause-whole g c =
    let a = g.W.ByteSink.contents c.args.writer.now in
    let b = g.W.ByteSink.contents c.write_all.new.writer in
    let d = g.W.ByteSink.contents c.write_body.new.writer in
    let lines = body c.args.text.now c.args.end.now in
    let first = header (status_code c.args.end.now) (line_count lines) c.args.line.now in
    Appends-more a b d first lines (subst (Appends a b) (c.deref.ensures.value ∙ c.in_ok-frame.ensures.header) c.in_ok-write_all.ensures.whole)
    (subst (λ e. Appends b d (c.args.text.now ++ e)) c.in_ok-frame.ensures.error c.in_ok-write_body.ensures.whole)
