-- What is read of a reader, of which its bytes may be known.
use Rattle.std.specs.Prelude.{◌≡◌, ℕ, List, [], ◌∷◌, Option, None, Some, take}
use Rattle.bq_run.specs.Bundle.{lines}
use Rattle.bq_run_commands.specs.Queries.{line_of, query_of}

-- the bytes to come, of which so many are read at most
abbrev pub ahead : ℕ → Option (List ℕ) → Option (List ℕ)
ahead left None = None
ahead left (Some bytes) = Some (take left bytes)

-- so it is with the bytes before and after, if they are known
abbrev pub Known : (List ℕ → List ℕ → Type 0) → Option (List ℕ) → Option (List ℕ) → Type 0
Known Is None after = Unit {0}
Known Is (Some before) None = ⊥
Known Is (Some before) (Some after) = Is before after

-- the first line is gone, and this is what counts of it
abbrev pub TakesLine : Option (List ℕ) → Option (List ℕ) → List ℕ → Type 0
TakesLine None after taken = Unit {0}
TakesLine (Some before) None taken = ⊥
TakesLine (Some before) (Some after) taken = (line : List ℕ) × (lines before ≡ line ∷ lines after) × (taken ≡ line_of line)

-- the same without the CR at its end, if there is one
abbrev pub TakesText : Option (List ℕ) → Option (List ℕ) → List ℕ → Type 0
TakesText None after taken = Unit {0}
TakesText (Some before) None taken = ⊥
TakesText (Some before) (Some after) taken = (line : List ℕ) × (lines before ≡ line ∷ lines after) × (taken ≡ query_of line)
