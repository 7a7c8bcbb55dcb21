-- Which files glob gives (Bazel, "Functions", the entry of glob): the package's files, by their names in it, that match some
-- pattern and no excluded one. A file belongs to the package that owns its path.
use Rattle.std.specs.Prelude.{◌≡◌, ◌↔◌, ℕ, ◌&&◌, Bool, true, false, not, nat_eq, List, [], Option, Some, None, length, drop, if◌then◌else◌}
use Rattle.std.specs.List.{list_any, filter, filter_map, starts_with, Contains}
use Rattle.std.specs.List.Sorted.{IsStrictlySortedBy}
use Rattle.std.specs.Ordering.{nat_cmp, is_lt}
use Rattle.std.specs.Cmp.Lexicographic.{slice_cmp}
use Rattle.bq_label.specs.declared.workspace.File.{File}
use Rattle.bq_label.specs.declared.packages.BuildFile.{BuildFile}
use Rattle.bq_label.specs.Label.{PackageParts, label_in}
use Rattle.bq_label.specs.Packages.{label_path, owner_of, is_package_id}
use Rattle.bq_label_glob.specs.Matching.{matches, Matches}

-- ---- as a function

-- the package's directory in the workspace and the slash after it, which precede the names of its files
unfoldable pub directory : PackageParts → List ℕ
directory p = label_path (label_in p [])

-- the file is before the text in the order of a workspace
abbrev pub is_before : List ℕ → File → Bool
is_before text f = is_lt (slice_cmp nat_cmp f.path text)

-- the path goes on after the directory
abbrev pub is_beneath : List ℕ → List ℕ → Bool
is_beneath dir path = starts_with nat_eq path dir

-- the owner of a file is this package
abbrev pub is_package : PackageParts → Option BuildFile → Bool
is_package p None = false
is_package p (Some b) = is_package_id p.repo p.package b

-- the package owns the path
unfoldable pub is_owned : List BuildFile → PackageParts → List ℕ → Bool
is_owned packages p path = is_package p (owner_of packages path)

-- the package owns none of the paths that go on after this directory
abbrev pub OwnsNothingBeneath : List BuildFile → PackageParts → List ℕ → Type 0
OwnsNothingBeneath packages p dir = (path : List ℕ) → is_beneath dir path ≡ true → is_owned packages p path ≡ false

-- the name of a path in the package that owns it: what follows the package's directory
unfoldable pub name_in : List BuildFile → PackageParts → List ℕ → Option (List ℕ)
name_in packages p path =
    if is_beneath (directory p) path && is_owned packages p path then Some (drop (length (directory p)) path) else None

-- the names of the package's files, in the order of their paths
unfoldable pub names_in : List BuildFile → PackageParts → List (List ℕ) → List (List ℕ)
names_in packages p paths = filter_map (λ t. name_in packages p t) paths

-- some pattern matches, and no excluded one
unfoldable pub is_wanted : List (List ℕ) → List (List ℕ) → List ℕ → Bool
is_wanted include exclude name = list_any (λ p. matches p name) include && not (list_any (λ p. matches p name) exclude)

-- the names that `glob` gives, of the paths of all files: the package's own files that a pattern of `include` matches and none of
-- `exclude`, sorted
unfoldable pub glob : List (List ℕ) → List BuildFile → PackageParts → List (List ℕ) → List (List ℕ) → List (List ℕ)
glob paths packages p include exclude = filter (is_wanted include exclude) (names_in packages p paths)

-- ---- in words

-- the package owns the path
pub record IsOwned (packages : List BuildFile) (p : PackageParts) (path : List ℕ) : Type 0 where
  pub owner : BuildFile
  pub owns : owner_of packages path ≡ Some owner
  pub id : owner.id ≡ p

-- a pattern of the list matches the name
pub record IsMatched (patterns : List (List ℕ)) (name : List ℕ) : Type 0 where
  pub pattern : List ℕ
  pub known : Contains patterns pattern
  pub match : Matches pattern name

-- the name is that of a file of the package that a pattern includes and none excludes
pub record IsGiven (paths : List (List ℕ)) (packages : List BuildFile) (p : PackageParts) (include exclude : List (List ℕ)) (name : List ℕ) : Type 0 where
  pub known : Contains paths (label_path (label_in p name))
  pub owned : IsOwned packages p (label_path (label_in p name))
  pub included : IsMatched include name
  pub not_excluded : IsMatched exclude name → ⊥

-- the names are exactly those of which this holds
abbrev pub AreThose : (List ℕ → Type 0) → List (List ℕ) → Type 0
AreThose P names = (name : List ℕ) → Contains names name ↔ P name

-- the names ascend by their bytes
abbrev pub Ascend : List (List ℕ) → Type 0
Ascend names = IsStrictlySortedBy (slice_cmp nat_cmp) names

-- the path is that of a name in the package
pub record HasName (p : PackageParts) (path : List ℕ) : Type 0 where
  pub name : List ℕ
  pub whole : path ≡ label_path (label_in p name)
