use Rattle.std.proofs.Common.{◌∙◌, None, Some, ap, refl, subst, sym}
use Rattle.std.specs.Prelude.{option_copied}
use Rattle.std.proofs.lemmas.Result.{IfOk-weaker}
use Rattle.bq_run_write.specs.Report.{report_view}
use Rattle.bq_run.specs.WorkspaceRun.{refused}
use Rattle.bq_run_facts.specs.Facts.{IsFactsBy, IsFactsOn, origin_of}
use Rattle.bq_run_facts.proofs.reports.report_facts.Goals as goal

pub returns-in_default : goal.returns-in_default
returns-in_default g c =
    let files = c.args.over.now.workspace.now in
    let origin = origin_of c.args.version.now c.args.over.now.options.now in
    IfOk-weaker c.report_asked.result (λ r. IsFactsBy origin files None (report_view r)) (λ r. IsFactsOn origin files (option_copied c.args.query) (report_view r))
    (λ r h. subst (λ q. IsFactsOn origin files (option_copied q) (report_view r)) (sym c.in_default.is) (IsFactsOn.read None tt h)) c.report_asked.ensures

pub returns-in-Ok : goal.returns-in-Ok
returns-in-Ok g c =
    let files = c.args.over.now.workspace.now in
    let origin = origin_of c.args.version.now c.args.over.now.options.now in
    let query = c.in-Ok.query in
    IfOk-weaker c.report_asked-report.result (λ r. IsFactsBy origin files (Some query) (report_view r)) (λ r. IsFactsOn origin files (option_copied c.args.query) (report_view r))
    (λ r h. subst (λ q. IsFactsOn origin files (option_copied q) (report_view r)) (sym c.in-Some.is) (IsFactsOn.read (Some query) c.in-Ok.ensures h)) c.report_asked-report.ensures

pub returns-in_ok-refusal_of-in-Err : goal.returns-in_ok-refusal_of-in-Err
returns-in_ok-refusal_of-in-Err g c =
    let files = c.args.over.now.workspace.now in
    let origin = origin_of c.args.version.now c.args.over.now.options.now in
    let wrong = c.in-Err.ensures c.in_ok-refusal_of-in-Err.ensures.known in
    subst (λ q. IsFactsOn origin files (option_copied q) (report_view c.refused_report.result)) (sym c.in-Some.is)
    (IsFactsOn.wrong_query c.in-Some.query.now c.in-Err.why refl wrong (c.refused_report.ensures ∙ ap refused c.in_ok-refusal_of-in-Err.ensures.value))
