use Rattle.std.proofs.Common.{rules, subst}
use Rattle.std.proofs.lemmas.Result.{IfOk-weaker}
use Rattle.bq_query_check.specs.Formula.{formula_of}
use Rattle.bq_run_write.specs.Report.{report_view}
use Rattle.bq_run_report.specs.Report.{Inside, Reports}
use Rattle.bq_run.specs.WorkspaceRun.{IsReportOn}
use Rattle.bq_run.proofs.Loads.{loaded_report}
use Rattle.bq_run.proofs.reports.report_by.Goals as goal

pub returns-in-Ok : goal.returns-in-Ok
returns-in-Ok g c =
    let o = c.args.options.now in
    let l = c.in-Ok.loaded in
    let query = formula_of c.args.question.query.now.set in
    let inside : Inside = record { prints = l.prints; faults = l.faults; packages = l.packages } in
    IfOk-weaker c.report_on.result (λ r. Reports inside query c.args.question.form (report_view r)) (λ r. IsReportOn o c.args.workspace.now (report_view r))
    (λ r h. loaded_report o c.args.workspace.now query c.args.schema.now l (report_view r) c.requires.query c.requires.schema c.in-Ok.ensures
    (subst (λ f. Reports inside query f (report_view r)) c.requires.form h))
    c.report_on.ensures

pub returns-in-Err-TooManyModules : goal.returns-in-Err-TooManyModules
returns-in-Err-TooManyModules g c =
    let many = c.in-Err-TooManyModules.ensures.0 (search rules) in
    IsReportOn.too_many (formula_of c.args.question.query.now.set) c.args.schema.now many.0 c.requires.query c.requires.schema many.1 many.2 c.refused_report.ensures
