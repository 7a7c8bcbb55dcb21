-- Labels (Bazel, "Labels"): which label a text reads as in a package, and how a label is printed.
use Rattle.std.specs.Prelude.{◌≡◌, ◌≢◌, ℕ, ◌++◌, ◌||◌, true, List, [], ◌∷◌, codes, if◌then◌else◌}
use Rattle.std.specs.List.{list_any}
use Rattle.std.specs.declared.cmp.Ordering.{Ordering}
use Rattle.std.specs.Ordering.{nat_cmp, ordering_then}
use Rattle.std.specs.Cmp.Lexicographic.{slice_cmp}
use Rattle.bq_label.specs.Paths.{is_slash, is_path, is_package, is_repository}

-- a package: the name of its repository, empty for the main one, and its path there, empty for the root
pub record PackageParts : Type 0 where
  pub repo : List ℕ
  pub «package» : List ℕ

-- a label: its package, and the name in it
pub record LabelParts : Type 0 where
  pub repo : List ℕ
  pub «package» : List ℕ
  pub name : List ℕ

-- a package, by its repository and its path
abbrev pub package_at : List ℕ → List ℕ → PackageParts
package_at r p = record { repo = r; «package» = p }

-- a label, by its repository, its package and its name
abbrev pub label_at : List ℕ → List ℕ → List ℕ → LabelParts
label_at r p n = record { repo = r; «package» = p; name = n }

-- the label's package
abbrev pub package_of : LabelParts → PackageParts
package_of l = package_at l.repo l.package

-- the label of a name in a package
abbrev pub label_in : PackageParts → List ℕ → LabelParts
label_in p n = label_at p.repo p.package n

-- a valid package: the repository's name may be empty, for the main one, and the path too, for the root
pub record IsPackage (p : PackageParts) : Type 0 where
  pub valid_repo : is_repository p.repo ≡ true
  pub valid_package : is_package p.package ≡ true

-- a valid label: one of a valid package, whose name is a path without empty segments, `.` and `..`
pub record IsLabel (l : LabelParts) : Type 0 where
  pub valid_repo : is_repository l.repo ≡ true
  pub valid_package : is_package l.package ≡ true
  pub valid_name : is_path l.name ≡ true

-- `@`
abbrev pub at_sign : ℕ
at_sign = 64

-- what names the repository in front of `//`: nothing for the main one
abbrev pub repository_prefix : List ℕ → List ℕ
repository_prefix [] = []
repository_prefix (b ∷ bs) = at_sign ∷ b ∷ bs

-- `//package:name`, or `@repository//package:name` outside the main repository
unfoldable pub full_form : LabelParts → List ℕ
full_form l = repository_prefix l.repo ++ (codes "//" ++ (l.package ++ (codes ":" ++ l.name)))

-- how texts compare that are followed by a byte that neither has
unfoldable pub cmp_ended : ℕ → List ℕ → List ℕ → Ordering
cmp_ended c xs ys = slice_cmp nat_cmp (xs ++ c ∷ []) (ys ++ c ∷ [])

-- how `package:name` of two labels compare
abbrev pub cmp_names : LabelParts → LabelParts → Ordering
cmp_names a b = ordering_then (cmp_ended 58 a.package b.package) (slice_cmp nat_cmp a.name b.name)

-- the text after the last slash of a path
unfoldable pub last_segment : List ℕ → List ℕ
last_segment [] = []
last_segment (b ∷ bs) = if is_slash b || list_any is_slash bs then last_segment bs else b ∷ bs

-- the texts that name a package
pub data Spells (p : PackageParts) (text : List ℕ) : Type 0 where
  -- `//package`, in the main repository
  main : p.repo ≡ [] → text ≡ codes "//" ++ p.package → Spells p text
  -- `@repository//package`; `@//package` is the main repository's
  other : text ≡ at_sign ∷ (p.repo ++ (codes "//" ++ p.package)) → Spells p text

-- the text begins with another byte than this
abbrev pub BeginsOther : ℕ → List ℕ → Type 0
BeginsOther c [] = Unit {0}
BeginsOther c (b ∷ bs) = b ≢ c

-- the forms in which a file of the package `own` may write a label
pub data IsWritten (own : PackageParts) (text : List ℕ) (l : LabelParts) : Type 0 where
  -- `//package:name`, in the file's repository
  absolute : text ≡ codes "//" ++ (l.package ++ (codes ":" ++ l.name)) → l.repo ≡ own.repo → IsWritten own text l
  -- `//a/b`, which is `//a/b:b`
  short : text ≡ codes "//" ++ l.package → l.name ≡ last_segment l.package → l.repo ≡ own.repo → IsWritten own text l
  -- `:name`, in the file's package
  own_name : text ≡ codes ":" ++ l.name → package_of l ≡ own → IsWritten own text l
  -- `name`, in the file's package
  bare_name : text ≡ l.name → BeginsOther at_sign text → package_of l ≡ own → IsWritten own text l
  -- `@repository//package:name`; `@//package:name` is the main repository's
  external : text ≡ at_sign ∷ (l.repo ++ (codes "//" ++ (l.package ++ (codes ":" ++ l.name)))) → IsWritten own text l
  -- `@repository//a/b`, which is `@repository//a/b:b`
  external_short : text ≡ at_sign ∷ (l.repo ++ (codes "//" ++ l.package)) → l.name ≡ last_segment l.package → IsWritten own text l
  -- `@repository`, which is `@repository//:repository`
  repository : text ≡ at_sign ∷ l.repo → l.package ≡ [] → l.name ≡ l.repo → IsWritten own text l

-- a text reads as a label in a file of the package `own`
pub record ReadsAs (own : PackageParts) (text : List ℕ) (l : LabelParts) : Type 0 where
  pub written : IsWritten own text l
  pub valid : IsLabel l
