-- What a session answers is what a run with the query alone reports.
use Rattle.std.proofs.Common.{◌≤◌, ℕ, List, [], Err, refl, sym, subst, inl, inr, length}
use Rattle.bq_base.specs.declared.limits.Limits.{Limits}
use Rattle.bq_run.specs.WorkspaceRun.{Fits, IsReportOn, loaded_in}
use Rattle.bq_query.specs.declared.print.OutputForm.{OutputForm}
use Rattle.bq_query_check.specs.Checked.{IsChecked, IsWrong}
use Rattle.bq_query_check.specs.Formula.{Formula}
use Rattle.bq_query_lex.specs.declared.query_error.QueryErr.{QueryErr}
use Rattle.bq_run_write.specs.Ending.{status_by}
use Rattle.bq_run_write.specs.Report.{ReportView}
use Rattle.bq_run_report.specs.Report.{Inside, ReplyView, Replies, Reports, all_faults, fault_text}
use Rattle.bq_run_write.specs.declared.ending.NoAnswer.{NoAnswer}
use Rattle.bq_run_write.specs.declared.ending.NoAnswer.TheVariants.{Query}
use Rattle.bq_run_write.specs.declared.ending.Status.{Status}
use Rattle.bq_run_session.specs.Answer.{IsAnswerTo}
use Rattle.bq_run_commands.specs.Queries.{max_query_bytes}
use Rattle.bq_run_session.specs.Session.{IsAnswerIn}
use Rattle.bq_run_report.specs.declared.session.Session.{Session}

pub answered : (s : Session) (form : OutputForm) (text : List ℕ) (x : Formula) (reply : ReplyView) → length text ≤ max_query_bytes → IsChecked text x
    → Replies s.graph x form s.status reply → IsAnswerIn s form text reply
answered s form text x reply fits checked replies files limits i loaded over =
    let report : ReportView = record { faults = fault_text i; answer = reply.text; end = reply.end } in
    let inside : Replies s.graph x form (status_by (all_faults i)) reply = subst (λ (status : Status). Replies s.graph x form status reply) over.status replies in
    IsAnswerTo.ran fits (fault_text i) (inr refl) (λ o asks.
    let reports : Reports i x o.output report = record {
      graph = s.graph;
      made = over.graph;
      faults = refl;
      reply = subst (λ (f : OutputForm). Replies s.graph x f (status_by (all_faults i)) reply) (sym asks.output) inside;
    } in
    let over_files : Reports (loaded_in files loaded.rules loaded.fronts limits.steps loaded.labels loaded.edges) x o.output report = subst (λ (j : Inside). Reports j x o.output report) loaded.inside reports in
    IsReportOn.loaded x loaded.rules loaded.fronts loaded.labels loaded.edges (subst (λ t. IsChecked t x) (sym asks.text) checked) loaded.schema loaded.read loaded.discovered
    (subst (λ (all : Limits). Fits all loaded.edges) (sym asks.limits) loaded.fits)
    (subst (λ (all : Limits). Reports (loaded_in files loaded.rules loaded.fronts all.steps loaded.labels loaded.edges) x o.output report) (sym asks.limits) over_files))

-- the reply to a query that is refused
abbrev pub refused_view : NoAnswer → ReplyView
refused_view why = record { text = []; end = Err why }

pub wrong : (s : Session) (form : OutputForm) (text : List ℕ) (why : QueryErr) → length text ≤ max_query_bytes → IsWrong text why
    → IsAnswerIn s form text (refused_view (Query why))
wrong s form text why fits is files limits i loaded over =
    IsAnswerTo.ran fits [] (inl (why, is, refl)) (λ o asks. IsReportOn.wrong_query why (subst (λ t. IsWrong t why) (sym asks.text) is) refl)
