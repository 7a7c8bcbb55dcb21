-- Patterns that are looked up among names, and the set of these.
use Rattle.std.specs.Prelude.{◌≡◌, ℕ, Bool, not, List}
use Rattle.std.specs.List.{list_any}
use Rattle.bq_label_glob.specs.Matching.{is_star}

-- the pattern has no star
abbrev pub is_plain : List ℕ → Bool
is_plain pattern = not (list_any is_star pattern)

-- what holds of one of the set's names holds of one of these
abbrev pub HasNames : List (List ℕ) → List (List ℕ) → Type 0
HasNames set names = (test : List ℕ → Bool) → list_any test set ≡ list_any test names
