use Rattle.std.proofs.Common.{None, refl}
use Rattle.std.proofs.lemmas.Result.{err_from_is_err_and}
use Rattle.bq_run_session.specs.Outcome.{DoesAnswer, at_first}
use Rattle.bq_run_session.proofs.Outcomes.{all_written, faults_cut, keeps_itself}
use Rattle.bq_run_session.proofs.States.{holds_first}
use Rattle.bq_run_session.proofs.runs.run_queries_watched.Goals as goal

pub returns-in_err-opening-clause-does : goal.returns-in_err-opening-clause-does
returns-in_err-opening-clause-does g c =
    let p = err_from_is_err_and c.from_residual.result c.from_residual.ensures.1 in
    rw (p.1, p.2) (DoesAnswer.not_loaded c.in_err-opening.field-0.0 refl c.in_err-opening.ensures.opens (keeps_itself (g.F.ByteSink.contents c.args.faults_writer.now)) (keeps_itself (g.W.ByteSink.contents c.args.writer.now)))

pub returns-in_err-write_rope-clause-does : goal.returns-in_err-write_rope-clause-does
returns-in_err-write_rope-clause-does g c =
    let p = err_from_is_err_and c.from_residual-in_err-write_rope.result c.from_residual-in_err-write_rope.ensures.1 in
    rw (p.1, p.2) (faults_cut c.args.run.by.version.now c.args.run.by.options.now c.args.run.workspace c.in_ok-opening.opening.session c.in_ok-opening.ensures.opens (g.Q.ByteSource.remaining c.args.queries.now)
    (g.F.ByteSink.contents c.args.faults_writer.now) (g.F.ByteSink.contents c.write_rope.new.writer) (g.W.ByteSink.contents c.args.writer.now) (g.W.ByteSink.contents c.args.writer.now)
    c.write_rope.ensures.begins (keeps_itself (g.W.ByteSink.contents c.args.writer.now)))

pub returns-clause-does : goal.returns-clause-does
returns-clause-does g c =
    let version = c.args.run.by.version.now in
    let o = c.args.run.by.options.now in
    let files = c.args.run.workspace in
    let opening = c.in_ok-opening.opening in
    let session = opening.session in
    let on = c.in_ok-opening.ensures.opens in
    let holds = holds_first o.limits files (record { workspace = files; edits = c.new.result; session = session; kept = opening.kept; dropping = None }) on refl c.new.ensures.items in
    all_written version o files session on (g.Q.ByteSource.remaining c.args.queries.now)
    (g.F.ByteSink.contents c.args.faults_writer.now) (g.F.ByteSink.contents c.write_rope.new.writer) (g.W.ByteSink.contents c.args.writer.now) (g.W.ByteSink.contents c.answer_all-answered.new.writer)
    c.answer_all-answered.result c.in_ok-write_rope.ensures.whole (c.answer_all-answered.ensures.does (at_first files on.inside) holds)
