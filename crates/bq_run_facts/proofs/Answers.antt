-- A run that is asked for facts ends as one that is asked for the answer.
use Rattle.std.proofs.Common.{◌≡◌, ℕ, List, [], Some, None, Result, ap, subst, sym}
use Rattle.bq_label.specs.declared.packages.BuildFile.{BuildFile}
use Rattle.bq_label.specs.declared.workspace.File.{File}
use Rattle.bq_package_schema.specs.Schema.{Rules}
use Rattle.bq_load_front.specs.Parsed.{Fronts}
use Rattle.bq_load_front.specs.Reading.{parsed_of}
use Rattle.bq_load_front.proofs.Fronts.{are_fronts}
use Rattle.bq_load_discover.specs.LoadGraph.{inputs_of}
use Rattle.bq_query_check.specs.Checked.{IsChecked, IsWrong}
use Rattle.bq_query_check.specs.Formula.{formula_of}
use Rattle.bq_query_check.specs.declared.checked.CheckedQuery.{CheckedQuery}
use Rattle.bq_query_target_graph.specs.Graph.{GraphParts}
use Rattle.bq_query_check.specs.Verdict.{Fault}
use Rattle.bq_query.specs.Faults.{fault_in}
use Rattle.bq_query.specs.Printed.{printed}
use Rattle.bq_query.specs.declared.print.OutputForm.{OutputForm}
use Rattle.bq_run_write.specs.declared.ending.NoAnswer.{NoAnswer}
use Rattle.bq_run_write.specs.declared.ending.Status.{Status}
use Rattle.bq_run_write.specs.Ending.{status_by}
use Rattle.bq_run_write.specs.Report.{ReportView}
use Rattle.bq_run_report.specs.Report.{Inside, ReplyView, Reports, all_faults}
use Rattle.bq_run_report.proofs.Parts.{RepliesBy}
use Rattle.bq_run.specs.WorkspaceRun.{IsReportOn, loaded_in, refused}
use Rattle.bq_run.specs.declared.options.Options.{Options}
use Rattle.bq_facts.specs.declared.header.Origin.{Origin}
use Rattle.bq_run_facts.specs.Facts.{LoadSummaryView, FurtherView, IsFactsBy, IsFactsOn, TellsBy, TellsFacts, origin_of}
use Rattle.bq_run_facts.specs.Laws.{EndsAsAnswer}

abbrev reply_at : List ℕ → Result Status NoAnswer → ReplyView
reply_at text end = record { text = text; end = end }

abbrev report_at : List ℕ → List ℕ → Result Status NoAnswer → ReportView
report_at faults answer end = record { faults = faults; answer = answer; end = end }

abbrev HasAnswer : Options → List File → ReportView → Type 0
HasAnswer o files r = (answer : List ℕ) × IsReportOn o files (record { faults = r.faults; answer = answer; end = r.end })

-- a refusal has no text
refusal : (r : ReportView) (why : NoAnswer) → r ≡ refused why → record { faults = r.faults; answer = []; end = r.end } ≡ refused why
refusal r why e = ap (λ (s : ReportView). report_at s.faults [] s.end) e

-- with the same words and targets
replies : (f : Fault) (origin : Origin) (packages : List BuildFile) (w : GraphParts) (query : CheckedQuery) (form : OutputForm) (further : FurtherView) (status : Status) (text : List ℕ)
    (end : Result Status NoAnswer) → TellsBy f origin packages w (Some query) further status (reply_at text end) → (answer : List ℕ) × RepliesBy f w (formula_of query.set) form status (reply_at answer end)
replies None origin packages w query form further status text end (numbers, meant, within, is) =
    let answer = printed form w.targets numbers in
    (answer, (numbers, meant, ap (λ (s : ReplyView). reply_at answer s.end) is))
replies (Some why) origin packages w query form further status text end is = ([], ap (λ (s : ReplyView). reply_at [] s.end) is)

reports : (b : LoadSummaryView) (i : Inside) (query : CheckedQuery) (form : OutputForm) (r : ReportView) → TellsFacts b i (Some query) r
    → (answer : List ℕ) × Reports i (formula_of query.set) form (record { faults = r.faults; answer = answer; end = r.end })
reports b i query form r tells =
    let w = tells.graph in
    let found = replies (fault_in w (formula_of query.set)) b.origin b.packages w query form _ (status_by (all_faults i)) r.answer r.end tells.reply in
    (found.0, record { graph = w; made = tells.made; faults = tells.faults; reply = found.1 })

-- what the code reads of the files of labels
abbrev read : List File → Rules → Fronts
read files rules = parsed_of (inputs_of files rules)

by_query : (version : List ℕ) (o : Options) (files : List File) (query : CheckedQuery) (r : ReportView) → IsChecked o.query.items (formula_of query.set) → IsFactsBy (origin_of version o) files (Some query) r → HasAnswer o files r
by_query version o files query r checked (IsFactsBy.wrong_schema line e is) = ([], IsReportOn.wrong_schema (formula_of query.set) line checked e (refusal r _ is))
by_query version o files query r checked (IsFactsBy.too_many rules e many is) = ([], IsReportOn.too_many (formula_of query.set) rules (read files rules) checked e (are_fronts (inputs_of files rules)) many (refusal r _ is))
by_query version o files query r checked (IsFactsBy.loaded rules g e found fits tells) =
    let answered = reports _ (loaded_in files rules (read files rules) o.limits.steps g.labels g.edges) query o.output r tells in
    (answered.0, IsReportOn.loaded (formula_of query.set) rules (read files rules) g.labels g.edges checked e (are_fronts (inputs_of files rules)) found.graph fits answered.1)

same_text : (a b : List ℕ) → Some a ≡ Some b → a ≡ b
same_text a b e = cc

pub ends_as_answer : EndsAsAnswer
ends_as_answer version o files r (IsFactsOn.wrong_query query why e wrong is) =
    ([], IsReportOn.wrong_query why (subst (λ t. IsWrong t why) (sym (same_text o.query.items query e)) wrong) (refusal r _ is))
ends_as_answer version o files r (IsFactsOn.read None asked by) = absurd asked
ends_as_answer version o files r (IsFactsOn.read (Some query) asked by) = by_query version o files query r asked by
