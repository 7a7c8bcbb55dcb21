-- Repositories, packages and the owners of paths (Bazel, "Repositories, packages, and targets").
use Rattle.std.specs.Prelude.{◌≡◌, ◌≢◌, ℕ, ◌++◌, ◌-◌, ◌<◌, ◌≤◌, ◌⊎◌, ◌&&◌, ◌||◌, Bool, not, nat_eq, nat_lt, List, [], ◌∷◌, length, take, drop, Option, Some, None, bytes_eq, codes, true, false, if◌then◌else◌, option_and_then}
use Rattle.std.specs.List.{list_any, starts_with, find, filter, filter_map, Contains}
use Rattle.std.specs.Option.{option_map}
use Rattle.std.specs.declared.cmp.Ordering.{Ordering}
use Rattle.std.specs.Ordering.{nat_cmp, ordering_then, is_lt}
use Rattle.std.specs.Cmp.Lexicographic.{slice_cmp}
use Rattle.bq_label.specs.declared.workspace.File.{File}
use Rattle.bq_label.specs.declared.packages.BuildFile.{BuildFile}
use Rattle.bq_label.specs.Paths.{is_repository, is_path, common_len}
use Rattle.bq_label.specs.Label.{PackageParts, LabelParts, package_at, label_in, IsPackage, last_segment}
use Rattle.bq_label.specs.Reading.{split_once}
use Rattle.bq_label.specs.Order.{in_order}
use Rattle.bq_label.specs.Workspace.{is_above, paths_of, file_at}

-- what precedes the path of a file of a repository
abbrev pub repository_root : List ℕ → List ℕ
repository_root [] = []
repository_root (b ∷ bs) = codes "external/" ++ (b ∷ bs ++ codes "/")

-- a name in a directory, which is empty at the root
abbrev pub joined : List ℕ → List ℕ → List ℕ
joined [] name = name
joined (b ∷ bs) name = b ∷ bs ++ 47 ∷ name

-- the path that a label names: its package's directory, then its name
unfoldable pub label_path : LabelParts → List ℕ
label_path l = repository_root l.repo ++ joined l.package l.name

-- the name of the directory of repositories, and the slash after it
abbrev pub external_root : List ℕ
external_root = codes "external/"

-- the repository that a path lies in, and its path there: `external/NAME/REST` is REST of repository NAME, and any
-- other path below `external` is in no repository; loads, packages, owners and globs all go by it
unfoldable pub split_repository : List ℕ → Option (List ℕ × List ℕ)
split_repository path = if starts_with nat_eq path external_root
    then elim (split_once 47 (drop 9 path)) [ None ↦ None | Some p ↦ if not (bytes_eq p.0 []) && is_repository p.0 then Some p else None ]
    else Some ([], path)

-- the path in the workspace is the path `rest` of the repository: of the main one what is not below `external`, of any other
-- what is below `external` and its name
pub data IsPathOf (path repo rest : List ℕ) : Type 0 where
  main : repo ≡ [] → path ≡ rest → ((below : List ℕ) → path ≢ codes "external/" ++ below) → IsPathOf path repo rest
  other : repo ≢ [] → is_repository repo ≡ true → path ≡ codes "external/" ++ (repo ++ (codes "/" ++ rest)) → IsPathOf path repo rest

-- the repository that a path was split into is this one; false where the path lies in none
abbrev pub is_in : List ℕ → Option (List ℕ × List ℕ) → Bool
is_in repo None = false
is_in repo (Some found) = bytes_eq found.0 repo

-- the path lies in the repository
unfoldable pub is_in_repository : List ℕ → List ℕ → Bool
is_in_repository repo path = is_in repo (split_repository path)

-- the file that a label names: the one of the label's repository at its package's path, then its name
unfoldable pub label_file : List File → LabelParts → Option File
label_file files l =
    find (λ f. elim (split_repository f.path) [ None ↦ false | Some p ↦ bytes_eq p.0 l.repo && bytes_eq p.1 (joined l.package l.name) ]) files

-- the label names the file: its path is that of the name in the package, in the label's repository
pub record IsFileOf (files : List File) (l : LabelParts) (f : File) : Type 0 where
  pub known : Contains files f
  pub path : IsPathOf f.path l.repo (joined l.package l.name)

-- what is said of the file that a label names
abbrev pub FileIs : List File → LabelParts → Option File → Type 0
FileIs files l None = (f : File) → IsFileOf files l f → ⊥
FileIs files l (Some f) = IsFileOf files l f

-- the text before the last slash
unfoldable pub directory_of : List ℕ → List ℕ
directory_of path = take (length path - length (last_segment path) - 1) path

-- the file at the path is its directory's BUILD file: `BUILD.bazel`, or `BUILD` where there is no `BUILD.bazel` beside it
unfoldable pub is_build_file : List (List ℕ) → List ℕ → Bool
is_build_file paths path = bytes_eq (last_segment path) (codes "BUILD.bazel")
    || (bytes_eq (last_segment path) (codes "BUILD") && not (list_any (bytes_eq (path ++ codes ".bazel")) paths))

-- the package of the BUILD file at a path, by the repository of the path and its path there
abbrev pub build_file : List ℕ → List ℕ × List ℕ → BuildFile
build_file path found = record { id = package_at found.0 (directory_of found.1); path = path }

-- the BUILD file's own label
unfoldable pub build_label : BuildFile → Option LabelParts
build_label b = if is_path (last_segment b.path) then Some (label_in b.id (last_segment b.path)) else None

-- the package whose BUILD file is at this path
unfoldable pub package_of_file : List (List ℕ) → List ℕ → Option BuildFile
package_of_file paths path = if is_build_file paths path then option_map (build_file path) (split_repository path) else None

-- the packages whose BUILD files are at these paths, in their order
abbrev pub build_files : List (List ℕ) → List (List ℕ) → List BuildFile
build_files paths ps = filter_map (package_of_file paths) ps

-- packages by the bytes of their repositories, and then of their paths
abbrev pub id_cmp : PackageParts → PackageParts → Ordering
id_cmp p q = ordering_then (slice_cmp nat_cmp p.repo q.repo) (slice_cmp nat_cmp p.package q.package)

-- the order of packages
abbrev pub package_cmp : BuildFile → BuildFile → Ordering
package_cmp a b = id_cmp a.id b.id

-- the packages of a workspace, in their order; no file's content counts
unfoldable pub packages_of : List File → List BuildFile
packages_of files = in_order package_cmp (build_files (paths_of files) (paths_of files))

-- a BUILD file is that of a package
abbrev pub is_package_id : List ℕ → List ℕ → BuildFile → Bool
is_package_id repo path b = bytes_eq b.id.repo repo && bytes_eq b.id.package path

-- the package of this name
unfoldable pub package_named : List BuildFile → PackageParts → Option BuildFile
package_named packages p = find (is_package_id p.repo p.package) packages

-- the package's directory is above a path of the repository
abbrev pub is_over : List ℕ → List ℕ → BuildFile → Bool
is_over repo rest b = bytes_eq b.id.repo repo && (bytes_eq b.id.package [] || is_above b.id.package rest)

-- the package furthest in of those that hold a path
abbrev pub nearest : List BuildFile → Option BuildFile
nearest [] = None
nearest (a ∷ bs) = elim (nearest bs) [ None ↦ Some a | Some b ↦ if nat_lt (length a.id.package) (length b.id.package) then Some b else Some a ]

-- of the packages above a path of a repository, the nearest
unfoldable pub nearest_over : List BuildFile → List ℕ → List ℕ → Option BuildFile
nearest_over packages repo rest = nearest (filter (is_over repo rest) packages)

-- a path's owner: the package whose directory is the nearest above it in its repository
unfoldable pub owner_of : List BuildFile → List ℕ → Option BuildFile
owner_of packages path = option_and_then (λ h. nearest_over packages h.0 h.1) (split_repository path)

-- a package comes before this one in their order
abbrev pub comes_before : PackageParts → PackageParts → Bool
comes_before target p = is_lt (id_cmp p target)

-- how many bytes a package's path has in common with a path of a repository
abbrev pub common_in : PackageParts → List ℕ → List ℕ → ℕ
common_in p repo path = if bytes_eq p.repo repo then common_len p.package path else 0

-- no package of the repository is a directory above the path that has more than so many bytes
abbrev pub HasNoneLonger : List BuildFile → List ℕ → List ℕ → ℕ → Type 0
HasNoneLonger packages repo path n = (k : ℕ) → n < k → k < length path → package_named packages (package_at repo (take k path)) ≡ None

-- the path of the BUILD file of this name
abbrev pub build_path : PackageParts → List ℕ → List ℕ
build_path p name = label_path (label_in p name)

-- the file at the path is the package's BUILD file: `BUILD.bazel`, or `BUILD` where there is no `BUILD.bazel`
abbrev pub IsBuildPath : List File → PackageParts → List ℕ → Type 0
IsBuildPath files p path = (path ≡ build_path p (codes "BUILD.bazel")) ⊎ ((path ≡ build_path p (codes "BUILD")) × (file_at files (build_path p (codes "BUILD.bazel")) ≡ None))

-- a package of a workspace
pub record IsPackageOf (files : List File) (b : BuildFile) : Type 0 where
  pub known : Contains (paths_of files) b.path
  pub valid : IsPackage b.id
  pub build : IsBuildPath files b.id b.path
  pub repository : split_repository b.path ≡ Some (b.id.repo, joined b.id.package (last_segment b.path))

-- the package's directory is above a path of the repository, or the repository's root
pub record IsOver (repo rest : List ℕ) (b : BuildFile) : Type 0 where
  pub repo_is : b.id.repo ≡ repo
  pub above : (b.id.package ≡ []) ⊎ ((name : List ℕ) × (rest ≡ b.id.package ++ 47 ∷ name))

-- the package owns the path of the repository: no package that is over it too has a longer path
pub record IsOwner (packages : List BuildFile) (repo rest : List ℕ) (b : BuildFile) : Type 0 where
  pub known : Contains packages b
  pub over : IsOver repo rest b
  pub no_longer : (q : BuildFile) → Contains packages q → IsOver repo rest q → length q.id.package ≤ length b.id.package

-- what is said of a path's owner
abbrev pub OwnerIs : List BuildFile → List ℕ → List ℕ → Option BuildFile → Type 0
OwnerIs packages repo rest None = (q : BuildFile) → Contains packages q → IsOver repo rest q → ⊥
OwnerIs packages repo rest (Some b) = IsOwner packages repo rest b

-- the two names of a BUILD file
abbrev pub IsBuildName : List ℕ → Type 0
IsBuildName name = (name ≡ codes "BUILD.bazel") ⊎ (name ≡ codes "BUILD")

-- the workspace has a BUILD file in the package's directory, in its repository
pub record HasBuildFile (files : List File) (p : PackageParts) : Type 0 where
  pub file : File
  pub known : Contains files file
  pub name : List ℕ
  pub build_name : IsBuildName name
  pub repository : split_repository file.path ≡ Some (p.repo, joined p.package name)

-- one of the packages has this name
pub record IsListed (packages : List BuildFile) (p : PackageParts) : Type 0 where
  pub entry : BuildFile
  pub known : Contains packages entry
  pub id : entry.id ≡ p
