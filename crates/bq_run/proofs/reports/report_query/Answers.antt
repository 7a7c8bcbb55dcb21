use Rattle.std.proofs.Common.{rules}
use Rattle.bq_query_check.specs.Formula.{formula_of}
use Rattle.bq_run.specs.WorkspaceRun.{IsReportOn}
use Rattle.bq_run.proofs.reports.report_query.Goals as goal

pub returns-in-Err-Schema : goal.returns-in-Err-Schema
returns-in-Err-Schema g c =
    IsReportOn.wrong_schema (formula_of c.args.query.now.set) c.in-Err-Schema.line c.requires.query (c.in-Err-Schema.ensures c.in-Err-Schema.line (search rules)) c.refused_report.ensures
