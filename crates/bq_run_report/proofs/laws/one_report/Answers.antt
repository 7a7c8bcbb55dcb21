use Rattle.bq_run_report.proofs.OneReport.{one_report}
use Rattle.bq_run_report.proofs.laws.one_report.Goals as goal

pub returns : goal.returns
returns c = one_report
