-- What a session has, and what an item does to it.
use Rattle.std.specs.Prelude.{◌≡◌, ◌++◌, ◌||◌, ℕ, Bool, true, false, List, [], ◌∷◌, None, Some, Ok, Err}
use Rattle.bq_base.specs.declared.limits.Limits.{Limits}
use Rattle.bq_label.specs.declared.workspace.File.{File}
use Rattle.bq_label.specs.Workspace.{workspace_within}
use Rattle.bq_run.specs.declared.options.Options.{Options}
use Rattle.bq_run_facts.specs.Facts.{IsFactsOver}
use Rattle.bq_run_report.specs.Report.{Inside, ReplyView, all_faults, fault_text}
use Rattle.bq_run_write.specs.Deeds.{Run}
use Rattle.bq_run_write.specs.Ending.{status_by}
use Rattle.bq_run_write.specs.declared.error.RunErr.{RunErr}
use Rattle.bq_run_write.specs.declared.error.RunErr.TheVariants as run
use Rattle.bq_run_commands.specs.declared.edits.Edit.{Edit}
use Rattle.bq_run_commands.specs.declared.items.Request.{Request}
use Rattle.bq_run_commands.specs.declared.items.Request.TheVariants as request
use Rattle.bq_run_session.specs.Answer.{IsAnswerTo, IsLoadedAs}
use Rattle.bq_run_session.specs.Block.{block, is_refused, run_end, run_block}
use Rattle.bq_run_commands.specs.Edits.{edited}
use Rattle.bq_run_commands.specs.Items.{ItemView}
use Rattle.bq_run_session.specs.Session.{IsRefused}

-- a session between two items: what was loaded last, and what was asked to change since
pub record State : Type 0 where
  -- the files as they were when they were loaded last
  pub files : List File
  -- what they have in them
  pub inside : Inside
  -- what became of them since
  pub edits : List Edit

-- these files are not loaded: E4, E6 or E7
abbrev pub AreRefused : Limits → List File → RunErr → Type 0
AreRefused limits files run.Bundle = workspace_within limits files ≡ None
AreRefused limits files (run.Schema line) = (workspace : List File) × (workspace_within limits files ≡ Some workspace) × IsRefused limits workspace (run.Schema line)
AreRefused limits files run.TooManyModules = (workspace : List File) × (workspace_within limits files ≡ Some workspace) × IsRefused limits workspace run.TooManyModules
AreRefused limits files run.Memory = ⊥
AreRefused limits files run.Read = ⊥
AreRefused limits files run.Write = ⊥
AreRefused limits files (run.Query why) = ⊥

-- What a reload does: the files as they are edited are those of the session from then on, and its faults are written. Where they are
-- refused, all stays.
pub data Reloads (limits : Limits) (s : State) (line : List ℕ) (next : State) (text : List ℕ) (refused : Bool) : Type 0 where
  loaded : (files : List File) (i : Inside) → workspace_within limits (edited s.files s.edits) ≡ Some files → IsLoadedAs files limits i
      → next ≡ record { files = files; inside = i; edits = [] } → text ≡ run_block line (fault_text i) (Ok (status_by (all_faults i))) → refused ≡ false
      → Reloads limits s line next text refused
  kept : (why : RunErr) → AreRefused limits (edited s.files s.edits) why → next ≡ s → text ≡ run_block line [] (Err why) → refused ≡ true → Reloads limits s line next text refused

-- What an item does in a session by a program of this version and with these options: the session is as `next` after it, this text is
-- written, and what was asked is refused or not.
abbrev pub IsStep : List ℕ → Options → State → List ℕ → Request → State → List ℕ → Bool → Type 0
IsStep version o s line request.Nothing next text refused = (next ≡ s) × (text ≡ []) × (refused ≡ false)
IsStep version o s line request.Answer next text refused =
    (next ≡ s) × (reply : ReplyView) × IsAnswerTo s.files o.limits s.inside o.output line reply × (text ≡ block line reply) × (refused ≡ is_refused (run_end reply.end))
IsStep version o s line (request.Edit e) next text refused = (next ≡ record { files = s.files; inside = s.inside; edits = s.edits ++ e ∷ [] }) × (text ≡ []) × (refused ≡ false)
IsStep version o s line request.Reload next text refused = Reloads o.limits s line next text refused
IsStep version o s line (request.Facts query) next text refused =
    (next ≡ s) × (what : Run) × IsFactsOver version o s.files query what × (text ≡ run_block line what.answer what.end) × (refused ≡ is_refused what.end)
IsStep version o s line request.Bad next text refused = (next ≡ s) × (text ≡ run_block line [] (Err run.Bundle)) × (refused ≡ true)
IsStep version o s line request.Cut next text refused = (next ≡ s) × (text ≡ []) × (refused ≡ true)

-- What these items do, one after another, in a session that begins so: it ends as `last`, this is written, and one was refused or none.
pub data AreSteps (version : List ℕ) (o : Options) (first : State) : List ItemView → State → List ℕ → Bool → Type 0 where
  none : AreSteps version o first [] first [] false
  more : {all items : List ItemView} {next last : State} {whole text : List ℕ} {any refused : Bool} (a : ItemView) (here : List ℕ) (now : Bool) → AreSteps version o first items last text refused
      → IsStep version o last a.line a.request next here now → all ≡ items ++ a ∷ [] → whole ≡ text ++ here → any ≡ (now || refused) → AreSteps version o first all next whole any
