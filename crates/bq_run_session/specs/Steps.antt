-- What a call does for an item.
use Rattle.std.specs.Prelude.{◌≡◌, ℕ, Bool, true, false, List, Option, Some, Result, Ok, Err}
use Rattle.std.specs.Io.KnownBytes.{Appends, Keeps}
use Rattle.bq_base.specs.declared.limits.Limits.{Limits}
use Rattle.bq_label.specs.declared.workspace.File.{File}
use Rattle.bq_label.specs.Workspace.{workspace_within}
use Rattle.bq_run.specs.declared.options.Options.{Options}
use Rattle.bq_run_facts.specs.Facts.{IsFactsOver}
use Rattle.bq_run_write.specs.Deeds.{Run}
use Rattle.bq_run_write.specs.declared.ending.Status.{Status}
use Rattle.bq_load_reload.specs.Kept.{IsKept}
use Rattle.bq_run_device.specs.Device.{Begins}
use Rattle.bq_run_report.specs.Report.{IsOver, ReplyView}
use Rattle.bq_run_report.specs.declared.session.Session.{Session}
use Rattle.bq_run_write.specs.declared.error.RunErr.{RunErr}
use Rattle.bq_run_write.specs.declared.error.RunErr.TheVariants as run
use Rattle.bq_run_session.specs.declared.held.SessionState.{SessionState}
use Rattle.bq_run_session.specs.declared.held.Opened.{Opened}
use Rattle.bq_run_commands.specs.declared.items.Request.{Request}
use Rattle.bq_run_session.specs.declared.opening.Opening.{Opening}
use Rattle.bq_run_session.specs.Answer.{IsLoadedAs}
use Rattle.bq_run_session.specs.Block.{block, is_refused, run_block, run_end}
use Rattle.bq_run_commands.specs.Edits.{edited}
use Rattle.bq_run_session.specs.Session.{IsOn}
use Rattle.bq_run_session.specs.State.{AreRefused, IsStep, Reloads, State}

-- A text is written, and something is refused or not, as it says; of the text a beginning where the writer failed, and nothing out of
-- memory.
abbrev pub WritesOne : (Is : List ℕ → Bool → Type 0) → Result Bool RunErr → Option (List ℕ) → Option (List ℕ) → Type 0
WritesOne Is (Ok refused) old new = (text : List ℕ) × Is text refused × Appends old new text
WritesOne Is (Err run.Memory) old new = Keeps old new
WritesOne Is (Err run.Write) old new = (text : List ℕ) × (refused : Bool) × Is text refused × Begins old new text
WritesOne Is (Err run.Read) old new = ⊥
WritesOne Is (Err run.Bundle) old new = ⊥
WritesOne Is (Err (run.Query why)) old new = ⊥
WritesOne Is (Err (run.Schema line)) old new = ⊥
WritesOne Is (Err run.TooManyModules) old new = ⊥

-- the block of an answer to the query
abbrev pub IsBlock : (List ℕ → ReplyView → Type 0) → List ℕ → List ℕ → Bool → Type 0
IsBlock IsAnswer query text refused = (reply : ReplyView) × IsAnswer query reply × (text ≡ block query reply) × (refused ≡ is_refused (run_end reply.end))

-- the block of a line with this text, which ends so
abbrev pub IsBlockOf : List ℕ → List ℕ → Result Status RunErr → List ℕ → Bool → Type 0
IsBlockOf line told end text refused = (text ≡ run_block line told end) × (refused ≡ is_refused end)

-- this is what a session has
pub record Holds (limits : Limits) (held : SessionState) (s : State) : Type 0 where
  pub files : held.workspace ≡ s.files
  pub edits : held.edits.items ≡ s.edits
  pub loaded : IsLoadedAs s.files limits s.inside
  pub over : IsOver s.inside held.session

-- what is kept is of the files that were loaded last
abbrev pub KeepsIts : Limits → SessionState → Type 0
KeepsIts limits held = IsKept held.workspace limits.steps held.kept

-- the session that is opened, or why none is
abbrev pub session_by : Result Opening RunErr → Result Session RunErr
session_by (Ok r) = Ok r.session
session_by (Err why) = Err why

-- whatever the session has, the item does this
abbrev pub IsStepIn : List ℕ → Options → SessionState → List ℕ → Request → SessionState → List ℕ → Bool → Type 0
IsStepIn version o old line request new text refused = (s : State) → Holds o.limits old s → (next : State) × Holds o.limits new next × IsStep version o s line request next text refused

-- the same of a reload
abbrev pub ReloadsIn : Limits → SessionState → List ℕ → SessionState → List ℕ → Bool → Type 0
ReloadsIn limits old line new text refused = (s : State) → Holds limits old s → (next : State) × Holds limits new next × Reloads limits s line next text refused

-- what loading the files gives as they are edited
abbrev pub LoadsEdited : Limits → SessionState → Result Opened RunErr → Type 0
LoadsEdited limits held (Ok opened) = (workspace_within limits (edited held.workspace held.edits.items) ≡ Some opened.workspace) × IsOn opened.workspace limits opened.session
LoadsEdited limits held (Err run.Memory) = Unit {0}
LoadsEdited limits held (Err why) = AreRefused limits (edited held.workspace held.edits.items) why

-- there is no report: memory was refused, or a device failed
abbrev pub is_failed : Result Status RunErr → Bool
is_failed (Ok status) = false
is_failed (Err run.Memory) = true
is_failed (Err run.Read) = true
is_failed (Err run.Write) = true
is_failed (Err run.Bundle) = false
is_failed (Err (run.Query why)) = false
is_failed (Err (run.Schema line)) = false
is_failed (Err run.TooManyModules) = false

-- this is what a run for facts writes, and how it ends
abbrev pub IsFactsText : List ℕ → Options → List File → Option (List ℕ) → List ℕ → Result Status RunErr → Type 0
IsFactsText version o files query text end = (what : Run) × IsFactsOver version o files query what × (text ≡ what.answer) × (end ≡ what.end)
