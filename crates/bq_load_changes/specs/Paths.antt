-- Paths that came or went between two lists of files, and the packages that own them.
use Rattle.std.specs.Prelude.{◌≡◌, ℕ, ◌++◌, ◌||◌, Bool, false, List, [], ◌∷◌, Option, Some, None, bytes_eq, codes, nat_eq, if◌then◌else◌}
use Rattle.std.specs.List.{ends_with, filter, list_any}
use Rattle.bq_label.specs.declared.packages.BuildFile.{BuildFile}
use Rattle.bq_label.specs.declared.workspace.File.{File}
use Rattle.bq_label.specs.Label.{PackageParts}
use Rattle.bq_label.specs.Packages.{is_package_id}
use Rattle.bq_label.specs.Workspace.{paths_of}
use Rattle.bq_label_glob.specs.Names.{is_owned}

-- a file at the path may be a module: the path ends as those of .bzl files and of BUILD files do
unfoldable pub may_be_module : List ℕ → Bool
may_be_module path = ends_with nat_eq path (codes ".bzl") || (ends_with nat_eq path (codes "BUILD") || ends_with nat_eq path (codes "BUILD.bazel"))

-- one of these BUILD files is of the package
abbrev pub is_touched : List BuildFile → PackageParts → Bool
is_touched touched p = list_any (is_package_id p.repo p.package) touched

-- no file at the path is a module, and the package that owns it is one of these, if one owns it
pub record IsNoted (packages touched : List BuildFile) (path : List ℕ) : Type 0 where
  pub plain : may_be_module path ≡ false
  pub owned : (p : PackageParts) → is_touched touched p ≡ false → is_owned packages p path ≡ false

-- the lists have the same paths in the same order, but for some that are noted
pub record AreSameBut (packages touched : List BuildFile) (ps qs : List (List ℕ)) : Type 0 where
  pub same : (keeps : List ℕ → Bool) → ((path : List ℕ) → IsNoted packages touched path → keeps path ≡ false) → filter keeps ps ≡ filter keeps qs

-- the first packages, and more, are the second ones, and the lists have the same paths but for some that are noted then
pub record Notes (packages touched after : List BuildFile) (ps qs : List (List ℕ)) : Type 0 where
  pub more : (p : PackageParts) → is_touched after p ≡ false → is_touched touched p ≡ false
  pub same : AreSameBut packages after ps qs

-- packages with one more, unless it is one of them
abbrev pub with_package : List BuildFile → Option BuildFile → List BuildFile
with_package touched None = touched
with_package touched (Some b) = if is_touched touched b.id then touched else touched ++ b ∷ []

-- what follows in the list after a file of this path, if it begins with one
abbrev pub after_same : List ℕ → List File → Option (List File)
after_same path [] = None
after_same path (f ∷ fs) = if bytes_eq f.path path then Some fs else None

-- the second list goes on after files that have the same paths as these, but for some that are noted then
pub record Follows (packages touched after : List BuildFile) (ps : List (List ℕ)) (files rest : List File) : Type 0 where
  pub front : List File
  pub whole : files ≡ front ++ rest
  pub notes : Notes packages touched after ps (paths_of front)
