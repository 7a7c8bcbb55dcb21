use Rattle.std.proofs.Common.{Ok, false, rules, sym, ap, ◌∙◌}
use Rattle.std.proofs.lemmas.Result.{err_from_is_err_and}
use Rattle.bq_run_session.specs.Block.{run_block}
use Rattle.bq_run_session.specs.Steps.{IsBlockOf, ReloadsIn, is_failed}
use Rattle.bq_run_session.proofs.States.{block_failed, keeps, loads, why_refused, writes_as}
use Rattle.bq_run_session.proofs.runs.reload.Goals as goal

pub returns-in_err-write_block-in-Ok-clause-does : goal.returns-in_err-write_block-in-Ok-clause-does
returns-in_err-write_block-in-Ok-clause-does g c =
    let p = err_from_is_err_and c.from_residual.result c.from_residual.ensures.1 in
    let limits = c.args.options.now.limits in
    let old = c.args.held.now in
    let line = c.args.line.now in
    let new = c.take_over.new.held in
    let opened = c.in-Ok.opened in
    let is = c.in-Ok.ensures.loads in
    rw (p.1, p.2) (block_failed (ReloadsIn limits old line new) (run_block line new.session.faults (Ok new.session.status)) false c.in_err-write_block-in-Ok.field-0.0
    (g.W.ByteSink.contents c.args.writer.now) (g.W.ByteSink.contents c.write_block.new.writer)
    (loads limits old new line opened is.0 is.1 c.take_over.ensures.workspace c.take_over.ensures.session c.take_over.ensures.edits)
    c.in_err-write_block-in-Ok.ensures.memory c.in_err-write_block-in-Ok.ensures.begins (c.in_err-write_block-in-Ok.ensures.only (search rules)))

pub returns-in_ok-write_block-in-Ok-clause-does : goal.returns-in_ok-write_block-in-Ok-clause-does
returns-in_ok-write_block-in-Ok-clause-does g c =
    let limits = c.args.options.now.limits in
    let old = c.args.held.now in
    let line = c.args.line.now in
    let new = c.take_over.new.held in
    let is = c.in-Ok.ensures.loads in (
      run_block line new.session.faults (Ok new.session.status),
      loads limits old new line c.in-Ok.opened is.0 is.1 c.take_over.ensures.workspace c.take_over.ensures.session c.take_over.ensures.edits,
      c.in_ok-write_block-in-Ok.ensures.whole,
    )

pub returns-else-is_failed-clause-does : goal.returns-else-is_failed-clause-does
returns-else-is_failed-clause-does g c =
    let limits = c.args.options.now.limits in
    let held = c.args.held.now in
    let line = c.args.line.now in
    let told = c.refusal-told.result in
    let why = c.in-Err.why in
    writes_as (IsBlockOf line told.text told.end) (ReloadsIn limits held line held)
    (keeps limits held held line why told.text told.end (why_refused limits held why (sym (c.if-is_failed.ensures ∙ ap is_failed c.refusal-told.ensures.end)) c.in-Err.ensures.loads)
    c.refusal-told.ensures.text c.refusal-told.ensures.end)
    c.write_told.result (g.W.ByteSink.contents c.args.writer.now) (g.W.ByteSink.contents c.write_told.new.writer) c.write_told.ensures.does
