-- A package: the targets that its BUILD file's accepted calls declare, in their order, then the BUILD file, and then the files of the
-- package that these targets name, each where nothing before it declares it (Bazel, "BUILD files"; "Dependencies").
use Rattle.std.specs.Prelude.{◌≡◌, ℕ, List, [], ◌∷◌, ◌++◌, Bool, true, false, not, Option, Some, None, map, bytes_eq, if◌then◌else◌}
use Rattle.std.specs.List.{list_all, flat_map, filter, find, IsDistinct}
use Rattle.bq_label.specs.Label.{PackageParts, LabelParts, package_of}
use Rattle.bq_package_target.specs.declared.target.Target.{Target}
use Rattle.bq_package_target.specs.Value.{labels_in}
use Rattle.bq_package_target.specs.Target.{is_source, is_of, names_of, source, declares}
use Rattle.bq_base_texts.specs.NameSet.{has}

-- a package, by the label of its BUILD file, and its targets in the order in which they are declared
pub record PackageTargets : Type 0 where
  pub build_file : LabelParts
  pub targets : List Target

-- a package without targets
abbrev pub no_targets : LabelParts → PackageTargets
no_targets b = record { build_file = b; targets = [] }

-- no two targets have one name, and each is of the package
pub record AreTargetsOf (own : PackageParts) (targets : List Target) : Type 0 where
  pub distinct : IsDistinct bytes_eq (names_of targets)
  pub inside : list_all (λ t. is_of own t.label) targets ≡ true

-- what is kept while a BUILD file is evaluated: the targets, and their names
pub record IsState (own : PackageParts) (targets : List Target) (names : List (List ℕ)) : Type 0 where
  pub valid : AreTargetsOf own targets
  pub taken : names ≡ names_of targets

-- the targets that a call declares are of the package
abbrev pub IsOwnCall : PackageParts → Target → Type 0
IsOwnCall own t = list_all (λ d. is_of own d.label) (declares t) ≡ true

-- the target of this name
abbrev pub target_named : List Target → List ℕ → Option Target
target_named ts name = find (λ t. bytes_eq name t.label.name) ts

-- a rule, an output or a group has the label's name
unfoldable pub is_taken : List Target → LabelParts → Bool
is_taken ts l = elim (target_named ts l.name) [ None ↦ false | Some t ↦ not (is_source t.kind) ]

-- the labels that name a file of their own: those whose names are not taken, each once
unfoldable pub new_files : List (List ℕ) → List LabelParts → List LabelParts
new_files taken [] = []
new_files taken (l ∷ ls) = if has taken l.name then new_files taken ls else l ∷ new_files (taken ++ l.name ∷ []) ls

-- the source files that these labels add to targets, with the line of the call that exports them
unfoldable pub files : ℕ → List Target → List LabelParts → List Target
files line ts ls = map (λ l. source l line) (new_files (names_of ts) ls)

-- the labels of the package that targets name
unfoldable pub own_labels : PackageParts → List Target → List LabelParts
own_labels own ts = filter (is_of own) (flat_map (λ t. labels_in t.attributes) ts)

-- the package once its BUILD file is evaluated
unfoldable pub finished : PackageTargets → PackageTargets
finished p = record p { targets = p.targets ++ files 0 p.targets (p.build_file ∷ own_labels (package_of p.build_file) p.targets) }
