-- How a segment of a pattern is cut at its stars, what a text has after a piece between two of them, and how a path is cut before its
-- last segment.
use Rattle.std.specs.Prelude.{◌≡◌, ◌≢◌, ◌≤◌, ℕ, ◌++◌, false, List, [], ◌∷◌, Option, length, MatchOption}
use Rattle.std.specs.List.{list_any, slice_split}
use Rattle.bq_label.specs.Paths.{is_slash}
use Rattle.bq_label_glob.specs.Matching.{is_star}

-- the pattern's first star is between the piece and the rest
pub record IsCutAtStar (pattern piece rest : List ℕ) : Type 0 where
  pub whole : pattern ≡ piece ++ 42 ∷ rest
  pub plain : list_any is_star piece ≡ false

-- the rest is what the text has after the first place of the piece
pub record IsAfterFirst (piece text rest : List ℕ) : Type 0 where
  pub before : List ℕ
  pub whole : text ≡ before ++ (piece ++ rest)
  pub first : (other later : List ℕ) → text ≡ other ++ (piece ++ later) → length before ≤ length other

-- the text has the piece at no place
abbrev pub IsNowhere : List ℕ → List ℕ → Type 0
IsNowhere piece text = (before after : List ℕ) → text ≢ before ++ (piece ++ after)

-- the segment is the path's last, and what is before it, if anything is, has the others
abbrev pub IsCutAtLast : {A : Type 0} → (A → List ℕ) → Option A → List ℕ → List ℕ → Type 0
IsCutAtLast text before path segment =
    MatchOption before (slice_split is_slash path ≡ segment ∷ []) (λ b. slice_split is_slash path ≡ slice_split is_slash (text b) ++ segment ∷ [])
