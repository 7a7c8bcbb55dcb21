-- What a query is answered: what a run with that query alone is.
use Rattle.std.specs.Prelude.{◌≡◌, ◌⊎◌, ◌<◌, ◌≤◌, ℕ, List, [], Ok, Err, length}
use Rattle.bq_base.specs.declared.limits.Limits.{Limits}
use Rattle.bq_label.specs.declared.workspace.File.{File}
use Rattle.bq_label.specs.Label.{LabelParts}
use Rattle.bq_label.specs.Packages.{packages_of}
use Rattle.bq_package_schema.specs.Schema.{Rules}
use Rattle.bq_load_discover.specs.LoadGraph.{IsLoadGraph, inputs_of}
use Rattle.bq_load_discover.specs.Schema.{schema_in}
use Rattle.bq_query.specs.declared.print.OutputForm.{OutputForm}
use Rattle.bq_query_check.specs.Checked.{IsWrong}
use Rattle.bq_query_lex.specs.declared.query_error.QueryErr.{QueryErr}
use Rattle.bq_query_lex.specs.declared.query_error.QueryErr.TheVariants.{Syntax}
use Rattle.bq_run_report.specs.Report.{Inside, ReplyView, fault_text}
use Rattle.bq_run_write.specs.declared.ending.NoAnswer.TheVariants.{Query}
use Rattle.bq_run.specs.WorkspaceRun.{IsReportOn, Loads, Fits, Fronts, AreFronts, loaded_in}
use Rattle.bq_run.specs.declared.options.Options.{Options}
use Rattle.bq_run_commands.specs.Queries.{max_query_bytes}

-- the workspace has this in it once it is loaded, by these limits
pub record IsLoadedAs (files : List File) (limits : Limits) (i : Inside) : Type 0 where
  pub rules : Rules
  pub fronts : Fronts
  pub labels : List LabelParts
  pub edges : Loads
  pub schema : schema_in files ≡ Ok rules
  pub read : AreFronts (inputs_of files rules) fronts
  pub discovered : IsLoadGraph (packages_of files) fronts labels edges
  pub fits : Fits limits edges
  pub inside : i ≡ loaded_in files rules fronts limits.steps labels edges

-- a run with this query, this form and these limits, and with any number of jobs
pub record Asks (query : List ℕ) (form : OutputForm) (l : Limits) (o : Options) : Type 0 where
  pub text : o.query.items ≡ query
  pub output : o.output ≡ form
  pub limits : o.limits ≡ l

-- the faults of a run with this query are those of the session; a run with a wrong query loads nothing
abbrev pub HasFaults : Inside → List ℕ → List ℕ → Type 0
HasFaults i query faults = ((why : QueryErr) × IsWrong query why × (faults ≡ [])) ⊎ (faults ≡ fault_text i)

-- over a workspace with this in it
pub data IsAnswerTo (files : List File) (limits : Limits) (i : Inside) (form : OutputForm) (query : List ℕ) (reply : ReplyView) : Type 0 where
  -- Q1
  too_long : max_query_bytes < length query → reply ≡ record { text = []; end = Err (Query Syntax) } → IsAnswerTo files limits i form query reply
  ran : length query ≤ max_query_bytes → (faults : List ℕ) → HasFaults i query faults
      → ((o : Options) → Asks query form limits o → IsReportOn o files (record { faults = faults; answer = reply.text; end = reply.end }))
      → IsAnswerTo files limits i form query reply
