-- The tables of numbers against the faults and errors.
use Rattle.std.proofs.Common.{◌≡◌, ◌≢◌, ℕ, Bool, true, false, List, [], ◌∷◌, Option, Some, None, refl, sym, ap, subst, codes, bytes_eq, cond}
use Rattle.std.specs.Prelude.{option_map}
use Rattle.std.specs.Option.{option_or}
use Rattle.std.specs.List.{AllByRecursion, find}
use Rattle.std.specs.Fmt.{digits}
use Rattle.std.proofs.lemmas.Slice.Eq.{bytes_eq-Decides}
use Rattle.bq_base.specs.declared.fault.FaultKind.{FaultKind}
use Rattle.bq_base_texts.specs.FaultKinds.{fault_word, kinds, first_called, fault_called, each_is_called}
use Rattle.bq_query_lex.specs.declared.query_error.QueryErr.{QueryErr}
use Rattle.bq_query_lex.specs.declared.query_error.QueryErr.TheVariants as query
use Rattle.bq_run_write.specs.declared.error.RunErr.{RunErr}
use Rattle.bq_run_write.specs.declared.error.RunErr.TheVariants as run
use Rattle.bq_run_explain.specs.Numbers.{fault_entry, queries, runs, first_entry, entry_numbered}
use Rattle.bq_run_explain.specs.Laws.{IsPrinted, of_fault, of_error, EachFaultIsExplained, EachErrorIsExplained, NothingElseIsExplained}

-- what is said of a number where it is known which fault it names
abbrev of_kind : List ℕ → Option FaultKind → Option (List ℕ × List ℕ)
of_kind number kind = option_or (option_map fault_entry kind) (option_or (first_entry number queries) (first_entry number runs))

pub each_fault : EachFaultIsExplained
unfolding entry_numbered
each_fault kind = ap (of_kind (fault_word kind)) (each_is_called kind)

pub each_error : EachErrorIsExplained
unfolding entry_numbered first_entry first_called digits
each_error run.Memory known = (codes "E1", codes "Memory", refl, refl)
each_error run.Read known = (codes "E2", codes "Read", refl, refl)
each_error run.Write known = (codes "E3", codes "Write", refl, refl)
each_error run.Bundle known = (codes "E4", codes "Bundle", refl, refl)
each_error (run.Schema line) known = (codes "E6", codes "Schema", refl, refl)
each_error run.TooManyModules known = (codes "E7", codes "TooManyModules", refl, refl)
each_error (run.Query query.Syntax) known = (codes "Q1", codes "Syntax", refl, refl)
each_error (run.Query (query.UnknownFunction name)) known = (codes "Q2", codes "UnknownFunction", refl, refl)
each_error (run.Query (query.LeftOut word)) known = (codes "Q3", codes "LeftOut", refl, refl)
each_error (run.Query query.BadRegex) known = (codes "Q4", codes "BadRegex", refl, refl)
each_error (run.Query (query.NoSuchTarget label)) known = (codes "Q5", codes "NoSuchTarget", refl, refl)
each_error (run.Query (query.NoSuchPackage pattern)) known = (codes "Q6", codes "NoSuchPackage", refl, refl)
each_error (run.Query (query.UnboundVariable name)) known = (codes "Q7", codes "UnboundVariable", refl, refl)
each_error (run.Query query.Arguments) known = (codes "Q8", codes "Arguments", refl, refl)
each_error (run.Query query.Memory) known = absurd (known refl)

-- each entry of a table can be printed
abbrev ArePrinted : List (List ℕ × List ℕ) → Type 0
ArePrinted table = AllByRecursion (λ (entry : List ℕ × List ℕ). IsPrinted entry.0 entry.1) table

-- what is found under a word has the word as its number, and can be printed
abbrev IsExplained : List ℕ → List ℕ × List ℕ → Type 0
IsExplained word found = (found.0 ≡ word) × IsPrinted found.0 found.1

explained_by : (b : Bool) (entry : List ℕ × List ℕ) (rest : Option (List ℕ × List ℕ)) (word : List ℕ) (found : List ℕ × List ℕ)
    → bytes_eq word entry.0 ≡ b → IsPrinted entry.0 entry.1 → (rest ≡ Some found → IsExplained word found)
    → cond b (Some entry) rest ≡ Some found → IsExplained word found
explained_by true entry rest word found t printed inner h =
    let own : word ≡ entry.0 = (bytes_eq-Decides word entry.0).0 t in
    let same : entry ≡ found = cc in
    subst (λ f. IsExplained word f) same (sym own, printed)
explained_by false entry rest word found t printed inner h = inner h

explained_in : (table : List (List ℕ × List ℕ)) → ArePrinted table → (word : List ℕ)
    (found : List ℕ × List ℕ) → first_entry word table ≡ Some found → IsExplained word found
unfolding first_entry
explained_in [] all word found h = cc
explained_in (entry ∷ rest) all word found h =
    explained_by (bytes_eq word entry.0) entry (first_entry word rest) word found refl all.0 (explained_in rest all.1 word found) h

explained_or : (first second : Option (List ℕ × List ℕ)) (word : List ℕ) (found : List ℕ × List ℕ)
    → (first ≡ Some found → IsExplained word found) → (second ≡ Some found → IsExplained word found)
    → option_or first second ≡ Some found → IsExplained word found
explained_or None second word found f g h = g h
explained_or (Some x) second word found f g h = f h

-- ---- a word that names a fault is that fault's

called_by : (b : Bool) (kind found : FaultKind) (rest : Option FaultKind) (word : List ℕ) → bytes_eq word (fault_word kind) ≡ b → (rest ≡ Some found → fault_word found ≡ word)
    → cond b (Some kind) rest ≡ Some found → fault_word found ≡ word
called_by true kind found rest word t inner h =
    let same : kind ≡ found = cc in
    subst (λ (k : FaultKind). fault_word k ≡ word) same (sym ((bytes_eq-Decides word (fault_word kind)).0 t))
called_by false kind found rest word t inner h = inner h

called_in : (ks : List FaultKind) (word : List ℕ) (found : FaultKind) → first_called word ks ≡ Some found → fault_word found ≡ word
unfolding first_called
called_in [] word found h = cc
called_in (kind ∷ ks) word found h = called_by (bytes_eq word (fault_word kind)) kind found (first_called word ks) word refl (called_in ks word found) h

explained_fault : (kind : Option FaultKind) (word : List ℕ) (found : List ℕ × List ℕ) → ((k : FaultKind) → kind ≡ Some k → fault_word k ≡ word)
    → option_map fault_entry kind ≡ Some found → IsExplained word found
explained_fault None word found named h = cc
explained_fault (Some k) word found named h =
    let same : fault_entry k ≡ found = cc in
    subst (λ (f : List ℕ × List ℕ). IsExplained word f) same (named k refl, of_fault k)

queries_printed : ArePrinted queries
queries_printed = (
  of_error (run.Query query.Syntax) (λ e. cc) refl,
  (
    of_error (run.Query (query.UnknownFunction [])) (λ e. cc) refl,
    (
      of_error (run.Query (query.LeftOut [])) (λ e. cc) refl,
      (
        of_error (run.Query query.BadRegex) (λ e. cc) refl,
        (
          of_error (run.Query (query.NoSuchTarget [])) (λ e. cc) refl,
          (
            of_error (run.Query (query.NoSuchPackage [])) (λ e. cc) refl,
            (
              of_error (run.Query (query.UnboundVariable [])) (λ e. cc) refl,
              (of_error (run.Query query.Arguments) (λ e. cc) refl, tt),
            ),
          ),
        ),
      ),
    ),
  ),
)

runs_printed : ArePrinted runs
runs_printed = (
  of_error run.Memory (λ e. cc) refl,
  (
    of_error run.Read (λ e. cc) refl,
    (
      of_error run.Write (λ e. cc) refl,
      (
        of_error run.Bundle (λ e. cc) refl,
        (
          of_error (run.Schema 0) (λ e. cc) refl,
          (of_error run.TooManyModules (λ e. cc) refl, tt),
        ),
      ),
    ),
  ),
)

pub nothing_else : NothingElseIsExplained
unfolding entry_numbered
nothing_else word number name h =
    explained_or (option_map fault_entry (fault_called word)) (option_or (first_entry word queries) (first_entry word runs)) word (number, name)
    (explained_fault (fault_called word) word (number, name) (called_in kinds word))
    (explained_or (first_entry word queries) (first_entry word runs) word (number, name) (explained_in queries queries_printed word (number, name)) (explained_in runs runs_printed word (number, name))) h
