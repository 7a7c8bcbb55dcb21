-- Which paths a pattern matches (Bazel, "Functions", the entry of glob): the path's segments can be cut so that each `**`
-- takes a run of whole segments, an empty one too, and each other segment of the pattern takes one segment that it fits.
use Rattle.std.specs.Prelude.{◌≡◌, ℕ, ◌++◌, ◌==◌, ◌&&◌, ◌||◌, Bool, true, false, List, [], ◌∷◌, bytes_eq, codes, nat_le, length, drop, if◌then◌else◌}
use Rattle.std.specs.List.{slice_split}
use Rattle.bq_label.specs.Paths.{is_slash}

-- ---- in words

-- the elements of a pattern take a list from the front: an element that takes many takes a run, an empty one too; each other
-- takes one element that fits it
pub data Takes {A X : Type 0} (IsMany : A → Type 0) (Fits : A → X → Type 0) : List A → List X → Type 0 where
  end : Takes IsMany Fits [] []
  run : (a : A) (ps : List A) (taken rest xs : List X) → IsMany a → xs ≡ taken ++ rest → Takes IsMany Fits ps rest → Takes IsMany Fits (a ∷ ps) xs
  single : (a : A) (ps : List A) (x : X) (xs : List X) → (IsMany a → ⊥) → Fits a x → Takes IsMany Fits ps xs → Takes IsMany Fits (a ∷ ps) (x ∷ xs)

-- a segment of a path fits a segment of a pattern: each `*` takes any bytes, each other byte itself
abbrev pub FitsSegment : List ℕ → List ℕ → Type 0
FitsSegment pattern segment = Takes (λ p. p ≡ 42) (λ p b. p ≡ b) pattern segment

-- the path matches the pattern
abbrev pub Matches : List ℕ → List ℕ → Type 0
Matches pattern path = Takes (λ p. p ≡ codes "**") FitsSegment (slice_split is_slash pattern) (slice_split is_slash path)

-- ---- as a function

-- the test passes the list or one of its tails
abbrev pub any_tail : {X : Type 0} → (List X → Bool) → List X → Bool
any_tail test [] = test []
any_tail test (x ∷ xs) = test (x ∷ xs) || any_tail test xs

-- there is nothing left
abbrev pub is_nothing : {X : Type 0} → List X → Bool
is_nothing [] = true
is_nothing (x ∷ xs) = false

-- a pattern takes a list: a piece that stands for many takes any number, each other piece one that fits
unfoldable pub takes : {A X : Type 0} → (A → Bool) → (A → X → Bool) → List A → List X → Bool
takes many fits [] xs = is_nothing xs
takes many fits (a ∷ ps) xs =
    if many a then any_tail (takes many fits ps) xs else elim xs [ [] ↦ false | x ∷ xs ↦ fits a x && takes many fits ps xs ]

-- `*`
abbrev pub is_star : ℕ → Bool
is_star p = p == 42

-- a byte stands for itself
abbrev pub is_same : ℕ → ℕ → Bool
is_same p b = p == b

-- a segment of a pattern fits one of a path: `*` stands for any bytes
unfoldable pub fits_segment : List ℕ → List ℕ → Bool
fits_segment pattern segment = takes is_star is_same pattern segment

-- the segment of a pattern that takes any number of segments
abbrev pub is_any_segments : List ℕ → Bool
is_any_segments segment = bytes_eq segment (codes "**")

-- a pattern matches a path, segment by segment; `**` stands for any number of them
unfoldable pub matches : List ℕ → List ℕ → Bool
matches pattern path = takes is_any_segments fits_segment (slice_split is_slash pattern) (slice_split is_slash path)

-- the segments from a place of a path on: none past its end
unfoldable pub segments_from : List ℕ → ℕ → List (List ℕ)
segments_from path at = if nat_le at (length path) then slice_split is_slash (drop at path) else []
