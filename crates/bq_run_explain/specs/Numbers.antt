-- The numbers that a run prints, with their names: those of faults of files, of errors of queries and of errors of runs.
use Rattle.std.specs.Prelude.{ℕ, List, [], ◌∷◌, Option, Some, None, codes, bytes_eq, if◌then◌else◌, option_map}
use Rattle.std.specs.Option.{option_or}
use Rattle.bq_base.specs.Fault.{fault_name}
use Rattle.bq_base.specs.declared.fault.FaultKind.{FaultKind}
use Rattle.bq_base_texts.specs.FaultKinds.{fault_word, fault_called}
use Rattle.bq_run_explain.specs.declared.explanation.ErrorEntry.{ErrorEntry}
use Rattle.bq_run_explain.specs.declared.explanation.Explanation.{Explanation}
use Rattle.bq_run_explain.specs.declared.explanation.NumberMeaning.{NumberMeaning}
use Rattle.bq_run_explain.specs.declared.explanation.NumberMeaning.TheVariants as subject

-- the number and the name of a fault
abbrev pub fault_entry : FaultKind → List ℕ × List ℕ
fault_entry kind = (fault_word kind, fault_name kind)

-- the number and the name of what is explained
abbrev pub subject_entry : NumberMeaning → List ℕ × List ℕ
subject_entry (subject.Fault kind) = fault_entry kind
subject_entry (subject.Error number name) = (number.now, name.now)

-- the number and the name of what an explanation is about
abbrev pub entry_of : Explanation → List ℕ × List ℕ
entry_of e = subject_entry e.subject

-- the number and the name of an error
abbrev pub error_entry : ErrorEntry → List ℕ × List ℕ
error_entry e = (e.number.now, e.name.now)

-- the errors of queries
abbrev pub queries : List (List ℕ × List ℕ)
queries =
    (codes "Q1", codes "Syntax")
    ∷ (codes "Q2", codes "UnknownFunction")
    ∷ (codes "Q3", codes "LeftOut")
    ∷ (codes "Q4", codes "BadRegex")
    ∷ (codes "Q5", codes "NoSuchTarget")
    ∷ (codes "Q6", codes "NoSuchPackage")
    ∷ (codes "Q7", codes "UnboundVariable")
    ∷ (codes "Q8", codes "Arguments")
    ∷ []

-- the errors of runs that are none of their queries
abbrev pub runs : List (List ℕ × List ℕ)
runs =
    (codes "E1", codes "Memory")
    ∷ (codes "E2", codes "Read")
    ∷ (codes "E3", codes "Write")
    ∷ (codes "E4", codes "Bundle")
    ∷ (codes "E6", codes "Schema")
    ∷ (codes "E7", codes "TooManyModules")
    ∷ []

-- the first entry with this number
unfoldable pub first_entry : List ℕ → List (List ℕ × List ℕ) → Option (List ℕ × List ℕ)
first_entry number [] = None
first_entry number (entry ∷ rest) = if bytes_eq number entry.0 then Some entry else first_entry number rest

-- what a number is explained as: itself and its name
unfoldable pub entry_numbered : List ℕ → Option (List ℕ × List ℕ)
entry_numbered number = option_or (option_map fault_entry (fault_called number)) (option_or (first_entry number queries) (first_entry number runs))
