-- What a call does that answers what is asked of a session.
use Rattle.std.specs.Prelude.{◌≡◌, ℕ, Bool, true, false, List, [], Option, Result, Ok, Err, IfSome, take}
use Rattle.std.specs.Io.KnownBytes.{Appends, Keeps}
use Rattle.bq_label.specs.declared.workspace.File.{File}
use Rattle.bq_run_write.specs.Ending.{status_by}
use Rattle.bq_run_report.specs.Report.{Inside, all_faults, fault_text}
use Rattle.bq_run_write.specs.declared.ending.Status.{Status}
use Rattle.bq_run_write.specs.declared.ending.Status.TheVariants as run_status
use Rattle.bq_run_device.specs.Device.{Begins}
use Rattle.bq_run_write.specs.declared.error.RunErr.{RunErr}
use Rattle.bq_run_write.specs.declared.error.RunErr.TheVariants as run
use Rattle.bq_run.specs.declared.options.Options.{Options}
use Rattle.bq_run_session.specs.declared.ending.SessionStatus.{SessionStatus}
use Rattle.bq_run_session.specs.declared.ending.SessionStatus.TheVariants.{Answered, Refused, WithFaults}
use Rattle.bq_run_commands.specs.Queries.{max_queries_bytes}
use Rattle.bq_run_session.specs.Answer.{IsLoadedAs}
use Rattle.bq_run_commands.specs.Items.{AreItems, ItemView}
use Rattle.bq_run_session.specs.Session.{IsRefused}
use Rattle.bq_run_session.specs.State.{AreSteps, State}

-- something was refused, or else the workspace has fault lines or not
abbrev pub session_status : Status → Bool → SessionStatus
session_status status true = Refused
session_status run_status.Answered false = Answered
session_status run_status.WithFaults false = WithFaults

-- the exit status: 0 answered, 2 refused, 3 with fault lines
abbrev pub session_code : SessionStatus → ℕ
session_code Answered = 0
session_code Refused = 2
session_code WithFaults = 3

-- the call ends so; out of memory and failing devices aside
abbrev pub EndsIn : Result SessionStatus RunErr → SessionStatus → Type 0
EndsIn (Ok status) end = status ≡ end
EndsIn (Err run.Memory) end = Unit {0}
EndsIn (Err run.Read) end = Unit {0}
EndsIn (Err run.Write) end = Unit {0}
EndsIn (Err run.Bundle) end = ⊥
EndsIn (Err (run.Query why)) end = ⊥
EndsIn (Err (run.Schema line)) end = ⊥
EndsIn (Err run.TooManyModules) end = ⊥

-- these are all items, or, where the call ended early, the first of them
abbrev pub Covers : ℕ → Result SessionStatus RunErr → List ℕ → List ItemView → Type 0
Covers limit (Ok status) input items = AreItems limit input items []
Covers limit (Err why) input items = (rest : List ℕ) × AreItems limit input items rest

-- the text is written whole; with a failed writer a beginning of it is
abbrev pub WritesUpTo : Result SessionStatus RunErr → List ℕ → Option (List ℕ) → Option (List ℕ) → Type 0
WritesUpTo (Err run.Write) text old new = Begins old new text
WritesUpTo result text old new = Appends old new text

-- What these items ask was done, one after another, in a session that begins so: `known` is what the reader had, if it is known, and the
-- writer held `old` before and `new` after.
pub record Answers (version : List ℕ) (o : Options) (first : State) (known : Option (List ℕ)) (result : Result SessionStatus RunErr) (old new : Option (List ℕ)) : Type 0 where
  pub items : List ItemView
  pub last : State
  pub text : List ℕ
  pub refused : Bool
  pub steps : AreSteps version o first items last text refused
  pub covers : IfSome known (λ input. Covers o.limits.bundle_bytes result (take max_queries_bytes input) items)
  pub ends : EndsIn result (session_status (status_by (all_faults last.inside)) refused)
  pub written : WritesUpTo result text old new

-- a session that has just loaded these files
abbrev pub at_first : List File → Inside → State
at_first files i = record { files = files; inside = i; edits = [] }

-- What a call does that begins with these files and ends so: `known` is what the reader had, if it is known, and f and f' are what the
-- writer of faults held before and after it, a and a' the other writer.
pub data DoesAnswer (version : List ℕ) (o : Options) (files : List File) (known : Option (List ℕ)) (result : Result SessionStatus RunErr) (f f' a a' : Option (List ℕ)) : Type 0 where
  -- E1, E6, E7: nothing is written
  not_loaded : (why : RunErr) → result ≡ Err why → IsRefused o.limits files why → Keeps f f' → Keeps a a' → DoesAnswer version o files known result f f' a a'
  -- E3: a beginning of the faults is written, and no answer
  faults_cut : (i : Inside) → IsLoadedAs files o.limits i → result ≡ Err run.Write → Begins f f' (fault_text i) → Keeps a a' → DoesAnswer version o files known result f f' a a'
  -- the faults are written, and then what is asked is done
  answered : (i : Inside) → IsLoadedAs files o.limits i → Appends f f' (fault_text i) → Answers version o (at_first files i) known result a a' → DoesAnswer version o files known result f f' a a'
