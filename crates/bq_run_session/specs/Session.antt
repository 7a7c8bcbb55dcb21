-- A session: a workspace that is loaded, with the graph of its targets.
use Rattle.std.specs.Prelude.{◌≡◌, ℕ, List, Ok, Err, Result}
use Rattle.bq_base.specs.declared.limits.Limits.{Limits}
use Rattle.bq_label.specs.declared.workspace.File.{File}
use Rattle.bq_label.specs.Packages.{packages_of}
use Rattle.bq_package_schema.specs.Schema.{Rules}
use Rattle.bq_load_discover.specs.LoadGraph.{inputs_of}
use Rattle.bq_load_discover.specs.Modules.{AreTooMany}
use Rattle.bq_load_discover.specs.Schema.{schema_in}
use Rattle.bq_query.specs.declared.print.OutputForm.{OutputForm}
use Rattle.bq_run_report.specs.declared.session.Session.{Session}
use Rattle.bq_run_report.specs.Report.{Inside, IsOver, ReplyView}
use Rattle.bq_run.specs.WorkspaceRun.{Fronts, AreFronts}
use Rattle.bq_run_write.specs.declared.error.RunErr.{RunErr}
use Rattle.bq_run_write.specs.declared.error.RunErr.TheVariants as run
use Rattle.bq_run_session.specs.Answer.{IsAnswerTo, IsLoadedAs}

-- the session is over these files
pub record IsOn (files : List File) (limits : Limits) (s : Session) : Type 0 where
  pub inside : Inside
  pub loaded : IsLoadedAs files limits inside
  pub over : IsOver inside s

-- there is no session over these files: E6, E7; memory aside
abbrev pub IsRefused : Limits → List File → RunErr → Type 0
IsRefused limits files run.Memory = Unit {0}
IsRefused limits files (run.Schema line) = schema_in files ≡ Err line
IsRefused limits files run.TooManyModules = (rules : Rules) × (schema_in files ≡ Ok rules) × (fronts : Fronts) × AreFronts (inputs_of files rules) fronts × AreTooMany limits (packages_of files) fronts
IsRefused limits files run.Read = ⊥
IsRefused limits files run.Write = ⊥
IsRefused limits files run.Bundle = ⊥
IsRefused limits files (run.Query why) = ⊥

-- the result of opening these files within these limits: a session over them, or the error for which there is none
abbrev pub Opens : List File → Limits → Result Session RunErr → Type 0
Opens files limits (Ok s) = IsOn files limits s
Opens files limits (Err why) = IsRefused limits files why

-- over whatever files the session is, this is an answer to the query
abbrev pub IsAnswerIn : Session → OutputForm → List ℕ → ReplyView → Type 0
IsAnswerIn s form query reply = (files : List File) (limits : Limits) (i : Inside) → IsLoadedAs files limits i → IsOver i s → IsAnswerTo files limits i form query reply
