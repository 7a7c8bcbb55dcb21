-- The files of a workspace: which lists are valid, and their order.
use Rattle.std.specs.Prelude.{◌≡◌, ℕ, ◌++◌, ◌&&◌, ◌==◌, ◌≤◌, ◌<◌, Bool, true, not, nat_le, nat_lt, nat_eq, slice_index, take, is_some, List, [], ◌∷◌, length, Option, Some, None, map, bytes_eq, if◌then◌else◌}
use Rattle.std.specs.List.{list_all, list_any, starts_with, find}
use Rattle.std.specs.List.Sorted.{IsStrictlySortedBy, IsPermutation}
use Rattle.std.specs.declared.cmp.Ordering.{Ordering}
use Rattle.std.specs.Ordering.{nat_cmp}
use Rattle.std.specs.Cmp.Lexicographic.{slice_cmp}
use Rattle.bq_base.specs.declared.limits.Limits.{Limits}
use Rattle.bq_base.specs.Limits.{number_bound, standard}
use Rattle.bq_label.specs.declared.workspace.File.{File}
use Rattle.bq_label.specs.Paths.{is_path, common_len}
use Rattle.bq_label.specs.Order.{in_order}

-- the path goes on after the directory and a slash
unfoldable pub is_above : List ℕ → List ℕ → Bool
is_above directory path = starts_with nat_eq path (directory ++ 47 ∷ [])

-- no text is there twice
unfoldable pub are_distinct : List (List ℕ) → Bool
are_distinct [] = true
are_distinct (p ∷ ps) = not (list_any (bytes_eq p) ps) && are_distinct ps

-- none of the paths is a directory of another
unfoldable pub are_apart : List (List ℕ) → Bool
are_apart paths = list_all (λ p. not (list_any (λ d. is_above d p) paths)) paths

-- the paths of files, in their order
abbrev pub paths_of : List File → List (List ℕ)
paths_of files = map (λ f. f.path) files

-- the paths are valid and distinct, and none is a directory of another
unfoldable pub are_paths : List (List ℕ) → Bool
are_paths paths = list_all is_path paths && are_distinct paths && are_apart paths

-- files by the bytes of their paths
abbrev pub path_cmp : File → File → Ordering
path_cmp f g = slice_cmp nat_cmp f.path g.path

-- the files of a valid list that keeps these limits, in the order of their paths
unfoldable pub workspace_within : Limits → List File → Option (List File)
workspace_within limits files = if nat_le (length files) limits.files && are_paths (paths_of files) then Some (in_order path_cmp files) else None

-- by the standard limits
abbrev pub workspace_of : List File → Option (List File)
workspace_of files = workspace_within standard files

-- the files of a workspace, in their order; each can be numbered
pub record IsWorkspace (files : List File) : Type 0 where
  pub few : length files < number_bound
  pub valid : are_paths (paths_of files) ≡ true
  pub ascending : IsStrictlySortedBy path_cmp files

-- the files, in the order of a workspace that keeps these limits
pub record IsWorkspaceOf (limits : Limits) (files workspace : List File) : Type 0 where
  pub few : length files ≤ limits.files
  pub moved : IsPermutation files workspace
  pub valid : IsWorkspace workspace

-- the file at a path
unfoldable pub file_at : List File → List ℕ → Option File
file_at files path = find (λ f. bytes_eq f.path path) files

-- a path goes on with a slash where it parts from another path, and a file is there
unfoldable pub parts_at_file : List File → List ℕ → List ℕ → Bool
parts_at_file files before path =
    nat_lt (common_len before path) (length path)
    && slice_index path (common_len before path) == 47
    && is_some (file_at files (take (common_len before path) path))
