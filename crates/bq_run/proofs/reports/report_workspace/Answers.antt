use Rattle.std.proofs.Common.{◌∙◌, ap, subst}
use Rattle.bq_query_check.specs.Checked.{IsWrong}
use Rattle.bq_run.specs.WorkspaceRun.{IsReportOn, refused}
use Rattle.bq_run.proofs.reports.report_workspace.Goals as goal

pub returns-in_ok-refusal_of-in-Err : goal.returns-in_ok-refusal_of-in-Err
returns-in_ok-refusal_of-in-Err g c =
    let why = c.in-Err.why in
    let wrong = c.in-Err.ensures c.in_ok-refusal_of-in-Err.ensures.known in
    IsReportOn.wrong_query why (subst (λ t. IsWrong t why) c.deref.ensures.value wrong) (c.refused_report.ensures ∙ ap refused c.in_ok-refusal_of-in-Err.ensures.value)
