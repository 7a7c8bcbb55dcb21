-- Which files make a workspace, by examples, and how long a bundle may be.
use Rattle.std.specs.Prelude.{◌≡◌, ◌≤◌, ◌^◌, ℕ, true, false, List, [], ◌∷◌, Some, codes, length}
use Rattle.bq_label.specs.Workspace.{are_paths, workspace_of}
use Rattle.bq_label.specs.declared.workspace.File.{File}
use Rattle.bq_run.specs.Written.{IsBundleOf, IsWritten}

-- ---- paths

-- no path is there twice or is a directory of another, and no segment is empty, `.` or `..`
pub record PathsAreApart : Type 0 where
  pub beside : are_paths (codes "a" ∷ codes "ab/c" ∷ codes "b/a" ∷ []) ≡ true
  pub twice : are_paths (codes "a/b" ∷ codes "a/b" ∷ []) ≡ false
  pub directory : are_paths (codes "a" ∷ codes "a/b" ∷ []) ≡ false
  pub above : are_paths (codes "a/b/c" ∷ codes "a/b" ∷ []) ≡ false
  pub dots : are_paths (codes ".a/..b/c..d" ∷ []) ≡ true
  pub up : are_paths (codes "a/../b" ∷ []) ≡ false
  pub here : are_paths (codes "./a" ∷ []) ≡ false
  pub empty : are_paths (codes "a//b" ∷ []) ≡ false

-- ---- bundles

-- a text that is written by the files of a workspace is its bundle exactly where it has at most 2^30 bytes
pub record GibibyteAtMost (text : List ℕ) (files : List File) : Type 0 where
  pub short : (written : List File) → IsWritten text written → workspace_of written ≡ Some files → length text ≤ 2 ^ 30 → IsBundleOf text files
  pub long : IsBundleOf text files → length text ≤ 2 ^ 30
