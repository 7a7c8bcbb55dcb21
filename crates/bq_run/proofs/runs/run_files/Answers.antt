use Rattle.std.proofs.Common.{refl}
use Rattle.bq_run_write.specs.Report.{report_view}
use Rattle.bq_run_write.specs.Deeds.{DoesOne, run_report}
use Rattle.bq_run.proofs.runs.run_files.Goals as goal

pub returns-clause-does : goal.returns-clause-does
returns-clause-does g c =
    let r = report_view c.in_ok-report.report in
    DoesOne.ran (run_report r) (r, c.in_ok-report.ensures, refl) c.send_report.ensures.does
