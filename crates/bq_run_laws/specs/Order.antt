-- What comes first where several things are wrong.
use Rattle.std.specs.Prelude.{◌≡◌, [], List, Err}
use Rattle.bq_label.specs.declared.workspace.File.{File}
use Rattle.bq_query_lex.specs.declared.query_error.QueryErr.{QueryErr}
use Rattle.bq_query_check.specs.Checked.{IsWrong}
use Rattle.bq_run_write.specs.Report.{ReportView}
use Rattle.bq_run_write.specs.Deeds.{Run}
use Rattle.bq_run.specs.WorkspaceRun.{IsReportOn}
use Rattle.bq_run_write.specs.declared.error.RunErr.TheVariants as run
use Rattle.bq_run.specs.declared.options.Options.{Options}

-- the run ends with what is wrong with its query
pub record EndsWithWrongQuery (o : Options) (what : Run) : Type 0 where
  pub error : QueryErr
  pub wrong : IsWrong o.query.items error
  pub ends : what.end ≡ Err (run.Query error)

-- the run writes the faults of the workspace, and no answer
abbrev pub WritesFaultsAlone : Options → List File → Run → Type 0
WritesFaultsAlone o files what = (r : ReportView) × IsReportOn o files r × (what.faults ≡ r.faults) × (what.answer ≡ [])
