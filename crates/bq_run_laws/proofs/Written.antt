-- What a run writes, by how it ends.
use Rattle.std.proofs.Common.{◌≡◌, ◌∙◌, sym, ap, subst, refl, ℕ, true, false, List, [], ◌++◌, Result, Ok, Err}
use Rattle.std.specs.List.{flat_map}
use Rattle.bq_base_texts.specs.LineText.{line_text}
use Rattle.bq_label.specs.declared.workspace.File.{File}
use Rattle.bq_query_lex.specs.declared.query_error.QueryErr.{QueryErr}
use Rattle.bq_run_write.specs.Ending.{names_nothing}
use Rattle.bq_run_report.specs.Report.{Inside, all_faults, fault_text}
use Rattle.bq_run_write.specs.declared.ending.NoAnswer.{NoAnswer}
use Rattle.bq_run_write.specs.declared.ending.NoAnswer.TheVariants as refusal
use Rattle.bq_run_write.specs.declared.ending.Status.{Status}
use Rattle.bq_run_write.specs.Deeds.{Run, run_by, IsSilent}
use Rattle.bq_run.specs.Run.{IsRunOver, IsRunOf}
use Rattle.bq_run.specs.Written.{IsBundleWithin}
use Rattle.bq_run_write.specs.declared.error.RunErr.{RunErr}
use Rattle.bq_run_write.specs.declared.error.RunErr.TheVariants as run
use Rattle.bq_run.specs.declared.options.Options.{Options}
use Rattle.bq_run_laws.specs.Order.{WritesFaultsAlone}

-- ---- bundles

pub bundle_first : (o : Options) (input : List ℕ) (what : Run) → ((files : List File) → ¬ IsBundleWithin o.limits input files) → IsRunOf o input what
    → (what.end ≡ Err run.Bundle) × (what.faults ≡ []) × (what.answer ≡ [])
bundle_first o input what none (IsRunOf.no_bundle absent e) = (ap (λ (r : Run). r.end) e, ap (λ (r : Run). r.faults) e, ap (λ (r : Run). r.answer) e)
bundle_first o input what none (IsRunOf.bundle files is over) = absurd (none files is)

-- ---- prints

pub prints_first : (i : Inside) → (lines : List ℕ) × (fault_text i ≡ i.prints ++ lines)
prints_first i = (flat_map line_text (all_faults i), refl)

-- ---- errors

abbrev ended : RunErr → Result Status RunErr
ended why = Err why

end_query : (error why : QueryErr) → ended (run.Query error) ≡ ended (run.Query why) → error ≡ why
end_query error why e = cc

no_schema : (line : ℕ) (why : QueryErr) → ended (run.Schema line) ≡ ended (run.Query why) → ⊥
no_schema line why e = cc

no_many : (why : QueryErr) → ended run.TooManyModules ≡ ended (run.Query why) → ⊥
no_many why e = cc

faults_written : (faults answer : List ℕ) (end : Result Status NoAnswer) (why : QueryErr) → (run_by faults answer end).end ≡ Err (run.Query why) → names_nothing why ≡ true → ((run_by faults answer end).faults ≡ faults) × ((run_by faults answer end).answer ≡ [])
faults_written faults answer (Ok status) why e h = absurd (cc)
faults_written faults answer (Err (refusal.Query error)) why e h = let t : names_nothing error ≡ true = ap names_nothing (end_query error why e) ∙ h in (rw t refl, refl)
faults_written faults answer (Err (refusal.Schema line)) why e h = absurd (no_schema line why e)
faults_written faults answer (Err refusal.TooManyModules) why e h = absurd (no_many why e)

pub unanswered : (o : Options) (files : List File) (what : Run) (why : QueryErr) → IsRunOver o files what → what.end ≡ Err (run.Query why) → names_nothing why ≡ true → WritesFaultsAlone o files what
unanswered o files what why over e h =
    let r = over.0 in
    let is = over.2 in
    let w = faults_written r.faults r.answer r.end why (ap (λ (x : Run). x.end) (sym is) ∙ e) h in
    (r, over.1, ap (λ (x : Run). x.faults) is ∙ w.0, ap (λ (x : Run). x.answer) is ∙ w.1)

nothing_by : (faults answer : List ℕ) (end : Result Status NoAnswer) → IsSilent (run_by faults answer end).end → ((run_by faults answer end).faults ≡ []) × ((run_by faults answer end).answer ≡ [])
nothing_by faults answer (Ok status) h = absurd h
nothing_by faults answer (Err (refusal.Query error)) h = let f : names_nothing error ≡ false = h in (rw f refl, refl)
nothing_by faults answer (Err (refusal.Schema line)) h = (refl, refl)
nothing_by faults answer (Err refusal.TooManyModules) h = (refl, refl)

pub silent : (o : Options) (files : List File) (what : Run) → IsRunOver o files what → IsSilent what.end → (what.faults ≡ []) × (what.answer ≡ [])
silent o files what over h =
    let r = over.0 in
    let is = over.2 in
    let w = nothing_by r.faults r.answer r.end (subst (λ (x : Run). IsSilent x.end) is h) in
    (ap (λ (x : Run). x.faults) is ∙ w.0, ap (λ (x : Run). x.answer) is ∙ w.1)
