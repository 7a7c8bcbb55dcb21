-- What the definitions say together.
use Rattle.std.specs.Prelude.{◌≡◌}
use Rattle.bq_query_check.specs.Formula.{Formula}
use Rattle.bq_query.specs.declared.print.OutputForm.{OutputForm}
use Rattle.bq_run_write.specs.Report.{ReportView}
use Rattle.bq_run_report.specs.Report.{Inside, Reports}

-- two reports on one workspace and one query are one
abbrev pub OneReport : Type 0
OneReport = (i : Inside) (x : Formula) (form : OutputForm) (r s : ReportView) → Reports i x form r → Reports i x form s → r ≡ s
