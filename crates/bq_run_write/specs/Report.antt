-- The report on a workspace: what is written of it.
use Rattle.std.specs.Prelude.{ℕ, List, Result}
use Rattle.bq_run_write.specs.declared.ending.NoAnswer.{NoAnswer}
use Rattle.bq_run_write.specs.declared.ending.Status.{Status}
use Rattle.bq_run_write.specs.declared.report.Report.{Report}

-- both texts, and how the run ends once they are written
pub record ReportView : Type 0 where
  pub faults : List ℕ
  pub answer : List ℕ
  pub end : Result Status NoAnswer

-- a `Report`, without where its texts lie in memory
abbrev pub report_view : Report → ReportView
report_view r = record { faults = r.faults; answer = r.answer; end = r.end }
