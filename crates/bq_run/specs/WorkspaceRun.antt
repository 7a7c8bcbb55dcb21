-- The report on a workspace in hand: its texts, and how a run over it ends. The query is read first, then the schema, and then the modules
-- are loaded; what each of them gives is said by names.
use Rattle.std.specs.Prelude.{◌≡◌, ℕ, List, [], Ok, Err}
use Rattle.bq_base_texts.specs.FaultLine.{sorted_lines}
use Rattle.bq_label.specs.declared.packages.BuildFile.{BuildFile}
use Rattle.bq_label.specs.declared.workspace.File.{File}
use Rattle.bq_label.specs.Label.{LabelParts}
use Rattle.bq_label.specs.Packages.{packages_of}
use Rattle.bq_package_schema.specs.Schema.{Rules}
pub use Rattle.bq_board.specs.Graph.{Loads, Fits}
use Rattle.bq_load_by_name.specs.LoadGraph.{IsLoadGraph, inputs_of}
use Rattle.bq_load_by_name.specs.Modules.{AreTooMany}
use Rattle.bq_load_by_name.specs.Schema.{schema_in}
use Rattle.bq_load_by_name.specs.Loaded.{fault_lines, packages_in, print_lines}
use Rattle.bq_load_by_name.specs.Views.{OutcomeView}
use Rattle.bq_load_by_name.specs.Parsed.{parsed_in}
pub use Rattle.bq_load_by_name.specs.Parsed.{Fronts, AreFronts}
use Rattle.bq_load_by_name.specs.Results.{outcomes}
use Rattle.bq_query_lex.specs.declared.query_error.QueryErr.{QueryErr}
use Rattle.bq_query_check.specs.Checked.{IsChecked, IsWrong}
use Rattle.bq_query_check.specs.Formula.{Formula}
use Rattle.bq_run_write.specs.Report.{ReportView}
use Rattle.bq_run_report.specs.Report.{Inside, Reports}
use Rattle.bq_run_write.specs.declared.ending.NoAnswer.{NoAnswer}
use Rattle.bq_run_write.specs.declared.ending.NoAnswer.TheVariants.{Query, Schema, TooManyModules}
use Rattle.bq_run.specs.declared.options.Options.{Options}

-- nothing is loaded
abbrev pub refused : NoAnswer → ReportView
refused why = record { faults = []; answer = []; end = Err why }

-- what the outcomes of modules give, in a workspace with these packages
abbrev pub inside_by : List BuildFile → List OutcomeView → Inside
inside_by bs os = record { prints = print_lines os; faults = sorted_lines (fault_lines os); packages = packages_in bs os }

-- what is in the workspace once the modules of its load graph are evaluated by names, each with `limit` steps, where these are the files of
-- labels
abbrev pub loaded_in : List File → Rules → Fronts → ℕ → List LabelParts → Loads → Inside
loaded_in files rules fronts limit labels edges = inside_by (packages_of files) (outcomes (parsed_in files rules fronts limit labels) edges)

-- a report on these files: the first error there is, in this order, or the report of the loaded workspace
pub data IsReportOn (o : Options) (files : List File) (r : ReportView) : Type 0 where
  -- Q1 to Q4, Q7, Q8
  wrong_query : (why : QueryErr) → IsWrong o.query.items why → r ≡ refused (Query why) → IsReportOn o files r
  -- E6
  wrong_schema : (x : Formula) (line : ℕ) → IsChecked o.query.items x → schema_in files ≡ Err line → r ≡ refused (Schema line) → IsReportOn o files r
  -- E7
  too_many : (x : Formula) (rules : Rules) (fronts : Fronts) → IsChecked o.query.items x → schema_in files ≡ Ok rules → AreFronts (inputs_of files rules) fronts
      → AreTooMany o.limits (packages_of files) fronts → r ≡ refused TooManyModules → IsReportOn o files r
  loaded : (x : Formula) (rules : Rules) (fronts : Fronts) (labels : List LabelParts) (edges : Loads) → IsChecked o.query.items x → schema_in files ≡ Ok rules
      → AreFronts (inputs_of files rules) fronts → IsLoadGraph (packages_of files) fronts labels edges → Fits o.limits edges
      → Reports (loaded_in files rules fronts o.limits.steps labels edges) x o.output r → IsReportOn o files r
