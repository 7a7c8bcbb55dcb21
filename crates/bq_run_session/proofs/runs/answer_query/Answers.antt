use Rattle.bq_run_report.specs.Report.{reply_view}
use Rattle.bq_run_session.specs.Session.{IsAnswerIn}
use Rattle.bq_run_session.specs.Steps.{IsBlock, IsBlockOf}
use Rattle.bq_run_session.proofs.States.{block_is, writes_as}
use Rattle.bq_run_session.proofs.runs.answer_query.Goals as goal

pub returns-clause-does : goal.returns-clause-does
returns-clause-does g c =
    let query = c.args.query.now in
    let reply = c.in_ok-text.field-0 in
    let end = c.run_end-end.result in
    writes_as (IsBlockOf query reply.text end) (IsBlock (IsAnswerIn c.args.session.now c.args.form) query)
    (block_is (IsAnswerIn c.args.session.now c.args.form) query (reply_view reply) end c.in_ok-text.ensures c.run_end-end.ensures) c.write_told.result
    (g.W.ByteSink.contents c.args.writer.now) (g.W.ByteSink.contents c.write_told.new.writer) c.write_told.ensures.does
