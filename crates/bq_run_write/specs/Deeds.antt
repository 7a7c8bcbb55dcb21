-- What a run writes, and how it ends: what is written of a report, and what a call did that writes it.
use Rattle.std.specs.Prelude.{◌≡◌, ◌⊎◌, ℕ, false, List, [], Option, Result, Ok, Err, if◌then◌else◌}
use Rattle.std.specs.Io.KnownBytes.{Appends, Keeps}
use Rattle.bq_run_device.specs.Device.{Begins}
use Rattle.bq_run_write.specs.Ending.{is_unanswered, names_nothing}
use Rattle.bq_run_write.specs.Error.{run_err}
use Rattle.bq_run_write.specs.Report.{ReportView}
use Rattle.bq_run_write.specs.declared.ending.NoAnswer.{NoAnswer}
use Rattle.bq_run_write.specs.declared.ending.Status.{Status}
use Rattle.bq_run_write.specs.declared.error.RunErr.{RunErr}
use Rattle.bq_run_write.specs.declared.error.RunErr.TheVariants as run

-- what is written, and how the run ends
pub record Run : Type 0 where
  -- what the faults writer gets
  pub faults : List ℕ
  -- what the writer gets
  pub answer : List ℕ
  pub end : Result Status RunErr

-- With a status both texts are written. Where the query names what isn't there, the faults are written and no answer. With
-- every other error nothing is.
abbrev pub run_by : List ℕ → List ℕ → Result Status NoAnswer → Run
run_by faults answer (Ok status) = record { faults = faults; answer = answer; end = Ok status }
run_by faults answer (Err why) = record { faults = if is_unanswered why then faults else []; answer = []; end = Err (run_err why) }

-- what a run does with a report
abbrev pub run_report : ReportView → Run
run_report r = run_by r.faults r.answer r.end

-- out of memory and failing devices aside, the call ends as the definition does
abbrev pub EndsAs : Result Status RunErr → Result Status RunErr → Type 0
EndsAs (Err run.Memory) end = Unit {0}
EndsAs (Err run.Read) end = Unit {0}
EndsAs (Err run.Write) end = Unit {0}
EndsAs result end = result ≡ end

-- Both texts are written whole. Out of memory, or with a failed reader, nothing is; with a failed writer a beginning of each is, and
-- of the answer only after the whole of the faults.
abbrev pub Writes : Result Status RunErr → List ℕ → List ℕ → (f f' a a' : Option (List ℕ)) → Type 0
Writes (Err run.Memory) faults answer f f' a a' = Keeps f f' × Keeps a a'
Writes (Err run.Read) faults answer f f' a a' = Keeps f f' × Keeps a a'
Writes (Err run.Write) faults answer f f' a a' = Begins f f' faults × Begins a a' answer × (Keeps a a' ⊎ Appends f f' faults)
Writes result faults answer f f' a a' = Appends f f' faults × Appends a a' answer

-- both texts of a run are written whole
abbrev pub WritesWhole : Run → (f f' a a' : Option (List ℕ)) → Type 0
WritesWhole what f f' a a' = Appends f f' what.faults × Appends a a' what.answer

-- a beginning of each is written, and of the answer only after the whole of the faults
abbrev pub WritesBeginnings : Run → (f f' a a' : Option (List ℕ)) → Type 0
WritesBeginnings what f f' a a' = Begins f f' what.faults × Begins a a' what.answer × (Keeps a a' ⊎ Appends f f' what.faults)

-- The call did what the run is: what the faults writer held before and after it is f and f', the writer a and a'.
pub record Does (what : Run) (result : Result Status RunErr) (f f' a a' : Option (List ℕ)) : Type 0 where
  pub ends : EndsAs result what.end
  pub writes : Writes result what.faults what.answer f f' a a'

-- What a call did that ends so, where the run is one of these: nothing is written where memory was refused or the reader failed.
pub data DoesOne (IsIt : Run → Type 0) (result : Result Status RunErr) (f f' a a' : Option (List ℕ)) : Type 0 where
  gave_up : (result ≡ Err run.Memory) ⊎ (result ≡ Err run.Read) → Keeps f f' → Keeps a a' → DoesOne IsIt result f f' a a'
  ran : (what : Run) → IsIt what → Does what result f f' a a' → DoesOne IsIt result f f' a a'

-- an error with which nothing is written
abbrev pub IsSilent : Result Status RunErr → Type 0
IsSilent (Ok status) = ⊥
IsSilent (Err run.Memory) = Unit {0}
IsSilent (Err run.Read) = Unit {0}
IsSilent (Err run.Write) = ⊥
IsSilent (Err run.Bundle) = Unit {0}
IsSilent (Err (run.Query error)) = names_nothing error ≡ false
IsSilent (Err (run.Schema line)) = Unit {0}
IsSilent (Err run.TooManyModules) = Unit {0}
