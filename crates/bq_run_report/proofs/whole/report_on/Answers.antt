use Rattle.bq_query_check.specs.Formula.{formula_of}
use Rattle.bq_run_report.specs.Report.{inside, reply_view}
use Rattle.bq_run_report.proofs.Parts.{whole}
use Rattle.bq_run_report.proofs.whole.report_on.Goals as goal

pub returns : goal.returns
returns g c =
    whole (inside c.args.loaded) (formula_of c.args.question.query.now.set) c.args.question.form c.in_ok-faults.field-0 (reply_view c.in_ok-reply.reply) c.in_ok-faults.ensures c.in_ok-reply.ensures
