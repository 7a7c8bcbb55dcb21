use Rattle.std.proofs.Common.{◌∙◌, ap, subst, sym}
use Rattle.std.proofs.lemmas.Result.{IfOk-weaker}
use Rattle.bq_query_check.specs.Formula.{formula_of}
use Rattle.bq_run_report.specs.Report.{Replies, reply_view}
use Rattle.bq_run_session.specs.Session.{IsAnswerIn}
use Rattle.bq_run_session.proofs.Replies.{answered, refused_view, wrong}
use Rattle.bq_run_session.proofs.session.reply_to_text.Goals as goal

pub returns-in-Ok : goal.returns-in-Ok
returns-in-Ok c =
    let s = c.args.session.now in
    let form = c.args.form in
    let query = c.in-Ok.query in
    IfOk-weaker c.reply_to-reply.result (λ r. Replies s.graph (formula_of query.set) form s.status (reply_view r)) (λ r. IsAnswerIn s form c.args.query.now (reply_view r))
    (λ r h. answered s form c.args.query.now (formula_of query.set) (reply_view r) c.requires c.in-Ok.ensures h) c.reply_to-reply.ensures

pub returns-in_ok-refusal_of-in-Err : goal.returns-in_ok-refusal_of-in-Err
returns-in_ok-refusal_of-in-Err c =
    let is = c.in-Err.ensures c.in_ok-refusal_of-in-Err.ensures.known in
    subst (IsAnswerIn c.args.session.now c.args.form c.args.query.now) (sym (c.refused.ensures ∙ ap refused_view c.in_ok-refusal_of-in-Err.ensures.value))
    (wrong c.args.session.now c.args.form c.args.query.now c.in-Err.why c.requires is)
