use Rattle.std.proofs.Common.{◌∙◌, refl, rules}
use Rattle.std.proofs.lemmas.Result.{err_from_is_err_and}
use Rattle.bq_run_commands.specs.Reading.{ahead}
use Rattle.bq_run_session.proofs.Progress.{next_not_read, none_yet, not_err, one_more, one_not_done}
use Rattle.bq_run_session.proofs.runs.answer_all.Goals as goal

pub loop-item-init : goal.loop-item-init
loop-item-init g c = record {
  progress = λ s holds. none_yet c.args.by.version.now c.args.by.options.now s (g.Q.ByteSource.remaining c.args.queries.now) c.args.held.now (g.W.ByteSink.contents c.args.writer.now) holds;
  kept = c.requires.kept;
  limit = refl;
  quiet_queries = refl;
  quiet = refl;
}

pub returns-in_err-item-clause-does : goal.returns-in_err-item-clause-does
returns-in_err-item-clause-does g c =
    let now = ahead c.loop-item.left (g.Q.ByteSource.remaining c.loop-item.queries) in
    let p = err_from_is_err_and c.from_residual.result c.from_residual.ensures.1 in
    rw (p.1, p.2) (λ s holds. next_not_read c.args.by.version.now c.args.by.options.now s (g.Q.ByteSource.remaining c.args.queries.now) now c.loop-item.held c.loop-item.refused
    (g.W.ByteSink.contents c.args.writer.now) (g.W.ByteSink.contents c.loop-item.writer) (c.loop-item.invariant.progress s holds) c.in_err-item.field-0.0 (c.in_err-item.ensures.only (search rules)))

pub returns-in_err-is_refused-clause-does : goal.returns-in_err-is_refused-clause-does
returns-in_err-is_refused-clause-does g c =
    let now = ahead c.loop-item.left (g.Q.ByteSource.remaining c.loop-item.queries) in
    let next = ahead c.next_item.new.left (g.Q.ByteSource.remaining c.next_item.new.reader) in
    let item = c.in-Some.item in
    let p = err_from_is_err_and c.from_residual-in_err-is_refused.result c.from_residual-in_err-is_refused.ensures.1 in
    rw (p.1, p.2) (λ s holds. one_not_done c.args.by.version.now c.args.by.options.now s (g.Q.ByteSource.remaining c.args.queries.now) now c.loop-item.held c.loop-item.refused
    (g.W.ByteSink.contents c.args.writer.now) (g.W.ByteSink.contents c.loop-item.writer) (c.loop-item.invariant.progress s holds) next (g.W.ByteSink.contents c.take_item.new.writer)
    item.line.items item.request c.take_item.new.held c.in_err-is_refused.field-0.0 (rw c.in-Some.is at c.in_ok-item.ensures.item) c.in_err-is_refused.ensures.does)

pub loop-item-preserved : goal.loop-item-preserved
loop-item-preserved g c =
    let now = ahead c.loop-item.left (g.Q.ByteSource.remaining c.loop-item.queries) in
    let next = ahead c.next_item.new.left (g.Q.ByteSource.remaining c.next_item.new.reader) in
    let item = c.in-Some.item in
    record {
      progress = λ s holds. one_more c.args.by.version.now c.args.by.options.now s (g.Q.ByteSource.remaining c.args.queries.now) now c.loop-item.held c.loop-item.refused
          (g.W.ByteSink.contents c.args.writer.now) (g.W.ByteSink.contents c.loop-item.writer) (c.loop-item.invariant.progress s holds) next (g.W.ByteSink.contents c.take_item.new.writer)
          item.line.items item.request c.take_item.new.held c.in_ok-is_refused.is_refused _ (rw c.in-Some.is at c.in_ok-item.ensures.item) c.in_ok-is_refused.ensures.does c.either-refused.ensures;
      kept = c.in_ok-is_refused.ensures.kept;
      limit = c.loop-item.invariant.limit;
      quiet_queries = c.in_ok-item.ensures.quiet (not_err c.in_ok-item.field-0 _) ∙ c.loop-item.invariant.quiet_queries;
      quiet = c.in_ok-is_refused.ensures.quiet (not_err c.in_ok-is_refused.is_refused _) ∙ c.loop-item.invariant.quiet;
    }
