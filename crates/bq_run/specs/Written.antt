-- How files are written as a bundle, in words of the text alone. The law `one_reading_of_a_bundle` says that `files_of` reads
-- just these texts, as just these files, and `bundle_within` just those that hold a workspace.
use Rattle.std.specs.Prelude.{◌≡◌, ◌⊎◌, ◌≤◌, ◌==◌, ◌++◌, ℕ, false, List, [], ◌∷◌, Some, length, codes}
use Rattle.std.specs.List.{AllByRecursion}
use Rattle.bq_base.specs.declared.limits.Limits.{Limits}
use Rattle.bq_base.specs.Limits.{standard}
use Rattle.bq_label.specs.Workspace.{workspace_within}
use Rattle.bq_label.specs.declared.workspace.File.{File}
use Rattle.bq_run.specs.Bundle.{lines, is_header}

-- the bytes are of one line
abbrev pub HasNoNewline : List ℕ → Type 0
HasNoNewline bs = AllByRecursion (λ b. (b == 10) ≡ false) bs

-- no line of these bytes is a header
abbrev pub HasNoHeader : List ℕ → Type 0
HasNoHeader bs = AllByRecursion (λ l. is_header l ≡ false) (lines bs)

-- the next byte begins a line
abbrev pub EndsLine : List ℕ → Type 0
EndsLine [] = Unit {0}
EndsLine (b ∷ []) = b ≡ 10
EndsLine (b ∷ c ∷ bs) = EndsLine (c ∷ bs)

-- The text is written by these files, in this order: for each a header line with its path, and then its content, which has no
-- header in it and, where another file follows, ends a line.
pub data IsWritten : List ℕ → List File → Type 0 where
  ended : IsWritten [] []
  file : {text rest : List ℕ} {fs : List File} (f : File) → text ≡ codes "=== " ++ (f.path ++ (codes "\n" ++ (f.content ++ rest)))
      → HasNoNewline f.path → HasNoHeader f.content → EndsLine f.content ⊎ (rest ≡ []) → IsWritten rest fs → IsWritten text (f ∷ fs)

-- the text holds this workspace by these limits: it isn't too long, and is written by files that make the workspace
abbrev pub IsBundleWithin : Limits → List ℕ → List File → Type 0
IsBundleWithin limits text files = (length text ≤ limits.bundle_bytes) × (written : List File) × IsWritten text written × (workspace_within limits written ≡ Some files)

-- by the standard limits
abbrev pub IsBundleOf : List ℕ → List File → Type 0
IsBundleOf text files = IsBundleWithin standard text files
