-- The text form of a workspace: header lines, each followed by its file.
use Rattle.std.specs.Prelude.{◌≡◌, ◌<◌, ◌-◌, ◌++◌, ◌==◌, ◌&&◌, ℕ, Bool, true, nat_le, nat_eq, List, [], ◌∷◌, Option, None, Some, length, take, drop, map, slice_index, codes, option_and_then, if◌then◌else◌}
use Rattle.std.specs.List.{starts_with, list_all, onto_first}
use Rattle.bq_base.specs.declared.limits.Limits.{Limits}
use Rattle.bq_base.specs.Limits.{standard}
use Rattle.bq_label.specs.Workspace.{workspace_within}
use Rattle.bq_label.specs.declared.workspace.File.{File}

-- the lines of a text, each with its newline, which the last may lack
abbrev pub lines : List ℕ → List (List ℕ)
lines [] = []
lines (b ∷ bs) = if b == 10 then (b ∷ []) ∷ lines bs else onto_first b (lines bs)

-- what a header line begins with
abbrev pub marker : List ℕ
marker = codes "=== "

-- a line begins a file
abbrev pub is_header : List ℕ → Bool
is_header line = starts_with nat_eq line marker

-- a header line, and the bytes after it up to the next header or the end
pub record Part : Type 0 where
  pub header : List ℕ
  pub content : List ℕ

-- what the header lines cut a text into
pub record Cut : Type 0 where
  -- the bytes before the first header
  pub before : List ℕ
  pub parts : List Part

-- a line before a bundle that was cut: it begins a file, or stands in the one before
abbrev pub cut_at : List ℕ → Cut → Cut
cut_at line c = if is_header line
    then record { before = []; parts = record { header = line; content = c.before } ∷ c.parts }
    else record { before = line ++ c.before; parts = c.parts }

-- lines, cut at each header
abbrev pub cut : List (List ℕ) → Cut
cut [] = record { before = []; parts = [] }
cut (l ∷ ls) = cut_at l (cut ls)

-- the header has a newline after the marker
abbrev pub is_whole : Part → Bool
is_whole part = nat_le 5 (length part.header) && slice_index part.header (length part.header - 1) == 10

-- the path is the text between the marker and the newline
abbrev pub file_of : Part → File
file_of part = record { path = take (length part.header - 5) (drop 4 part.header); content = part.content }

-- A text that begins with a header is this file, and then the rest, which begins with a header or is empty.
pub record BeginsWith (text path content rest : List ℕ) : Type 0 where
  pub head : Part
  pub parts : (cut (lines text)).parts ≡ head ∷ (cut (lines rest)).parts
  pub whole : is_whole head ≡ true
  pub file : file_of head ≡ record { path = path; content = content }
  pub front : (cut (lines rest)).before ≡ []
  pub shorter : length rest < length text

-- nothing comes before the first header, and every header has its newline
abbrev pub is_bundle : Cut → Bool
is_bundle c = nat_eq (length c.before) 0 && list_all is_whole c.parts

-- the files of a text in their order there
abbrev pub files_of : List ℕ → Option (List File)
files_of text = let c = cut (lines text) in if is_bundle c then Some (map file_of c.parts) else None

-- the workspace that a text holds by these limits
unfoldable pub bundle_within : Limits → List ℕ → Option (List File)
bundle_within limits text = if nat_le (length text) limits.bundle_bytes then option_and_then (workspace_within limits) (files_of text) else None

-- by the standard limits
abbrev pub bundle_of : List ℕ → Option (List File)
bundle_of text = bundle_within standard text
