use Rattle.std.proofs.Common.{refl, rules}
use Rattle.std.proofs.lemmas.Result.{err_from_is_err_and}
use Rattle.bq_run_session.specs.Block.{is_refused, run_block}
use Rattle.bq_run_session.specs.Steps.{IsBlockOf}
use Rattle.bq_run_session.proofs.States.{block_failed}
use Rattle.bq_run_session.proofs.blocks.write_told.Goals as goal

pub returns-in_err-write_block-clause-does : goal.returns-in_err-write_block-clause-does
returns-in_err-write_block-clause-does g c =
    let p = err_from_is_err_and c.from_residual.result c.from_residual.ensures.1 in
    let line = c.args.line.now in
    let told = c.args.told in
    rw (p.1, p.2) (block_failed (IsBlockOf line told.text told.end) (run_block line told.text told.end) (is_refused told.end) c.in_err-write_block.field-0.0
    (g.W.ByteSink.contents c.args.writer.now) (g.W.ByteSink.contents c.write_block.new.writer) (refl, refl) c.in_err-write_block.ensures.memory c.in_err-write_block.ensures.begins
    (c.in_err-write_block.ensures.only (search rules)))

pub returns-clause-does : goal.returns-clause-does
returns-clause-does g c =
    let line = c.args.line.now in
    let told = c.args.told in
    (run_block line told.text told.end, (refl, c.is_refused.ensures), c.in_ok-write_block.ensures.whole)
