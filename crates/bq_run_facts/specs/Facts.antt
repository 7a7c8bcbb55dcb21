-- What a run writes that is asked for facts (`--facts`), and how it ends. Its faults and its ending are those of the run that is asked for the
-- answer instead.
use Rattle.std.specs.Prelude.{◌≡◌, ◌<◌, ℕ, ◌++◌, List, [], Option, Some, None, Ok, Err, length}
use Rattle.std.specs.List.{All, range_with_len}
use Rattle.bq_label.specs.declared.packages.BuildFile.{BuildFile}
use Rattle.bq_label.specs.declared.workspace.File.{File}
use Rattle.bq_label.specs.Packages.{packages_of}
use Rattle.bq_package_schema.specs.Schema.{Rules}
use Rattle.bq_load_front.specs.Reading.{parsed_of}
use Rattle.bq_load_discover.specs.LoadGraph.{GraphParts as LoadParts, IsReadGraph, inputs_of}
use Rattle.bq_load_discover.specs.Modules.{AreTooMany}
use Rattle.bq_load_discover.specs.Schema.{schema_in}
use Rattle.bq_base_texts.specs.declared.fault_line.FaultLine.{FaultLine}
use Rattle.bq_query_lex.specs.declared.query_error.QueryErr.{QueryErr}
use Rattle.bq_query_target_graph.specs.Graph.{GraphParts}
use Rattle.bq_query_target_graph.specs.Edges.{IsGraphOf}
use Rattle.bq_query_check.specs.Verdict.{Fault}
use Rattle.bq_query_check.specs.Checked.{IsChecked, IsWrong}
use Rattle.bq_query_check.specs.Formula.{formula_of}
use Rattle.bq_query_check.specs.declared.checked.CheckedQuery.{CheckedQuery}
use Rattle.bq_query.specs.Faults.{fault_in}
use Rattle.bq_run_write.specs.Ending.{status_by}
use Rattle.bq_run_write.specs.Report.{ReportView}
use Rattle.bq_run_report.specs.Report.{Inside, IsAnswer, ReplyView, all_faults, fault_text}
use Rattle.bq_run_write.specs.declared.ending.NoAnswer.TheVariants.{Query, Schema, TooManyModules}
use Rattle.bq_run_write.specs.declared.ending.Status.{Status}
use Rattle.bq_run.specs.declared.options.Options.{Options}
use Rattle.bq_run_write.specs.Deeds.{Run, run_report}
use Rattle.bq_run.specs.WorkspaceRun.{Fits, loaded_in, refused}
use Rattle.bq_facts.specs.declared.header.Origin.{Origin}
use Rattle.bq_facts.specs.Header.{header_line}
use Rattle.bq_run_facts.specs.declared.replies.Further.{Further}
use Rattle.bq_run_facts.specs.declared.reports.LoadSummary.{LoadSummary}
use Rattle.bq_run_facts.specs.Lines.{target_lines, module_lines, fault_objects}

-- ---- which targets

-- the query's text is read so, if there is a query
abbrev pub IsAsked : Option (List ℕ) → Option CheckedQuery → Type 0
IsAsked None None = Unit {0}
IsAsked None (Some query) = ⊥
IsAsked (Some text) None = ⊥
IsAsked (Some text) (Some query) = IsChecked text (formula_of query.set)

-- the first of the query's words that names what is not there
abbrev pub fault_by : GraphParts → Option CheckedQuery → Fault
fault_by w None = None
fault_by w (Some query) = fault_in w (formula_of query.set)

-- the targets that the query stands for, by number; all without a query
abbrev pub AreMeant : GraphParts → Option CheckedQuery → List ℕ → Type 0
AreMeant w None numbers = numbers ≡ range_with_len 0 (length w.targets)
AreMeant w (Some query) numbers = IsAnswer w (formula_of query.set) numbers

-- ---- the text

-- the lines after those of targets, and how many of them are of modules and of faults
pub record FurtherView : Type 0 where
  pub text : List ℕ
  pub modules : ℕ
  pub faults : ℕ

-- the lines after those of targets, as contracts see them
abbrev pub further_view : Further → FurtherView
further_view f = record { text = f.text; modules = f.modules; faults = f.faults }

-- the first line, the lines of these targets, and these further ones
abbrev pub facts_text : Origin → List BuildFile → GraphParts → List ℕ → FurtherView → List ℕ
facts_text origin packages w numbers further =
    header_line origin (record { targets = length numbers; modules = further.modules; faults = further.faults })
    ++ (target_lines packages w numbers ++ further.text)

-- the facts of the targets that are meant; nothing where a word of the query names what is not there
abbrev pub TellsBy : Fault → Origin → List BuildFile → GraphParts → Option CheckedQuery → FurtherView → Status → ReplyView → Type 0
TellsBy None origin packages w asked further status reply =
    (numbers : List ℕ) × AreMeant w asked numbers × All (λ at. at < length w.targets) numbers
    × (reply ≡ record { text = facts_text origin packages w numbers further; end = Ok status })
TellsBy (Some why) origin packages w asked further status reply = reply ≡ record { text = []; end = Err (Query why) }

-- the facts with these further lines and this status, or no text and Q5 or Q6 where the query names what is not there
abbrev pub Tells : Origin → List BuildFile → GraphParts → Option CheckedQuery → FurtherView → Status → ReplyView → Type 0
Tells origin packages w asked further status reply = TellsBy (fault_by w asked) origin packages w asked further status reply

-- these lines of so many modules, and those of these faults
abbrev pub further_lines : List ℕ → ℕ → List FaultLine → FurtherView
further_lines modules count faults = record { text = modules ++ fault_objects faults; modules = count; faults = length faults }

-- what is read of a workspace before its modules are evaluated: its packages, the lines of its modules and how many there are; and by which
-- program
pub record LoadSummaryView : Type 0 where
  pub origin : Origin
  pub packages : List BuildFile
  pub modules : List ℕ
  pub count : ℕ

-- what is read of a workspace before its modules are evaluated, as contracts see it
abbrev pub before_view : LoadSummary → LoadSummaryView
before_view b = record { origin = b.origin; packages = b.packages; modules = b.modules; count = b.count }

-- the report's answer and ending, by what is read before, the graph, what is asked, and all fault lines, which decide the status
abbrev pub TellsAll : LoadSummaryView → GraphParts → Option CheckedQuery → List FaultLine → ReportView → Type 0
TellsAll b w asked faults r =
    Tells b.origin b.packages w asked (further_lines b.modules b.count faults) (status_by faults) (record { text = r.answer; end = r.end })

-- The report over the graph of the targets of a workspace that is loaded.
pub record TellsFacts (b : LoadSummaryView) (i : Inside) (asked : Option CheckedQuery) (r : ReportView) : Type 0 where
  pub graph : GraphParts
  pub made : IsGraphOf i.packages graph
  pub faults : r.faults ≡ fault_text i
  pub reply : TellsAll b graph asked (all_faults i) r

-- what is read of these files with this load graph
abbrev pub before_of : Origin → List File → LoadParts → LoadSummaryView
before_of origin files g = record { origin = origin; packages = packages_of files; modules = module_lines g.modules; count = length g.modules }

-- The same, of files with this schema and this load graph.
abbrev pub TellsGraph : Origin → List File → Rules → LoadParts → Option CheckedQuery → ReportView → Type 0
TellsGraph origin files rules g asked r =
    TellsFacts (before_of origin files g) (loaded_in files rules (parsed_of (inputs_of files rules)) origin.limits.steps g.labels g.edges) asked r

-- ---- the run

-- the report of a run over these files whose query is read, by a program of this version and by these limits
pub data IsFactsBy (origin : Origin) (files : List File) (asked : Option CheckedQuery) (r : ReportView) : Type 0 where
  -- E6
  wrong_schema : (line : ℕ) → schema_in files ≡ Err line → r ≡ refused (Schema line) → IsFactsBy origin files asked r
  -- E7
  too_many : (rules : Rules) → schema_in files ≡ Ok rules → AreTooMany origin.limits (packages_of files) (parsed_of (inputs_of files rules)) → r ≡ refused TooManyModules
      → IsFactsBy origin files asked r
  loaded : (rules : Rules) (g : LoadParts) → schema_in files ≡ Ok rules → IsReadGraph (inputs_of files rules) g → Fits origin.limits g.edges
      → TellsGraph origin files rules g asked r → IsFactsBy origin files asked r

-- the report of a run with the query of this text, if there is one
pub data IsFactsOn (origin : Origin) (files : List File) (text : Option (List ℕ)) (r : ReportView) : Type 0 where
  -- Q1 to Q4, Q7, Q8
  wrong_query : (query : List ℕ) (why : QueryErr) → text ≡ Some query → IsWrong query why → r ≡ refused (Query why) → IsFactsOn origin files text r
  read : (asked : Option CheckedQuery) → IsAsked text asked → IsFactsBy origin files asked r → IsFactsOn origin files text r

-- the version of the program, and the limits of the run
abbrev pub origin_of : List ℕ → Options → Origin
origin_of version options = record { version = version; limits = options.limits }

-- what is written, and how the run ends
abbrev pub IsFactsOver : List ℕ → Options → List File → Option (List ℕ) → Run → Type 0
IsFactsOver version options files text what = (r : ReportView) × IsFactsOn (origin_of version options) files text r × (what ≡ run_report r)
