-- The numbers that are explained are those that a run can print: of faults (bq_base) and of errors (bq_run_write, bq_query_lex).
use Rattle.std.specs.Prelude.{◌≡◌, ◌≢◌, ℕ, List, ◌∷◌, ◌++◌, Some, codes}
use Rattle.bq_base.specs.declared.fault.FaultKind.{FaultKind}
use Rattle.bq_base.specs.Fault.{fault_name}
use Rattle.bq_base_texts.specs.FaultKinds.{fault_word}
use Rattle.bq_query_lex.specs.declared.query_error.QueryErr.TheVariants as query
use Rattle.bq_run_write.specs.declared.error.RunErr.{RunErr}
use Rattle.bq_run_write.specs.declared.error.RunErr.TheVariants as run
use Rattle.bq_run_write.specs.Error.{run_title}
use Rattle.bq_run_explain.specs.Numbers.{entry_numbered}

-- as `Q5 NoSuchTarget`, by which an error line names an error
abbrev pub titled : List ℕ → List ℕ → List ℕ
titled number name = number ++ 32 ∷ name

-- a number and the name after it that a run can print; a query for which there is no memory ends a run by E1
pub data IsPrinted : List ℕ → List ℕ → Type 0 where
  of_fault : (kind : FaultKind) → IsPrinted (fault_word kind) (fault_name kind)
  of_error : {number name : List ℕ} → (error : RunErr) → error ≢ run.Query query.Memory → run_title error ≡ titled number name
      → IsPrinted number name

-- each fault is explained by its number, under its name
abbrev pub EachFaultIsExplained : Type 0
EachFaultIsExplained = (kind : FaultKind) → entry_numbered (fault_word kind) ≡ Some (fault_word kind, fault_name kind)

-- and so is each error
abbrev pub EachErrorIsExplained : Type 0
EachErrorIsExplained = (error : RunErr) → error ≢ run.Query query.Memory
    → (number : List ℕ) × (name : List ℕ) × (run_title error ≡ titled number name) × (entry_numbered number ≡ Some (number, name))

-- and nothing else
abbrev pub NothingElseIsExplained : Type 0
NothingElseIsExplained = (word number name : List ℕ) → entry_numbered word ≡ Some (number, name)
    → (number ≡ word) × IsPrinted number name
